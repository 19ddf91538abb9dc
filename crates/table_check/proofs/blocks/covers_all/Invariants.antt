use Rattle.std.proofs.Common.{ℕ, ◌<◌, ◌≤◌, ◌^◌, ◌+ℤ◌, ◌≤ℤ◌}
use Rattle.wide_num.specs.Sums.{nth}
use Rattle.table_check.proofs.blocks.covers_all.Given as goal

abbrev pub invariant-loop-i : goal.invariant-loop-i
invariant-loop-i l = 2 ^ 62 ≤ l.marks → (s : ℕ) → s < l.i → (l.worth +ℤ nth l.below s) ≤ℤ nth l.line s
