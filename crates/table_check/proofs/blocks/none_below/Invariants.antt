use Rattle.std.proofs.Common.{ℕ, ◌<◌, ◌^◌, ◌≤ℤ◌}
use Rattle.wide_num.specs.Sums.{nth}
use Rattle.table_check.proofs.blocks.none_below.Given as goal

abbrev pub invariant-loop-i : goal.invariant-loop-i
invariant-loop-i l = l.gaps < 2 ^ 63 → (s : ℕ) → s < l.i → nth l.below s ≤ℤ nth l.line s
