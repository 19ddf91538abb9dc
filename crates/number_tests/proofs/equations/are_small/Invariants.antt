use Rattle.std.proofs.Common.{pos, unsigned_abs, ℕ, ◌<◌, ◌≤ℤ◌, ◌≤◌}
use Rattle.wide_num.specs.Sums.{nth}
use Rattle.number_tests.proofs.equations.are_small.Given as goal

abbrev pub invariant-loop-x : goal.invariant-loop-x
invariant-loop-x l = (k : ℕ) → k < l.x-index → (pos 0 ≤ℤ nth l.entries k) × (unsigned_abs (nth l.entries k) ≤ l.top)
