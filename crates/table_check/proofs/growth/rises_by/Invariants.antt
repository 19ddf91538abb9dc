use Rattle.std.proofs.Common.{ℕ, ◌+◌, ◌<◌, ◌≤ℤ◌}
use Rattle.wide_num.specs.Sums.{nth}
use Rattle.table_check.proofs.growth.rises_by.Given as goal

abbrev pub invariant-loop-s : goal.invariant-loop-s
invariant-loop-s l = (q : ℕ) → q + l.width < l.s → nth l.line q ≤ℤ nth l.line (q + l.width)
