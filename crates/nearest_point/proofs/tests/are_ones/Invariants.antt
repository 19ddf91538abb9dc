use Rattle.std.proofs.Common.{◌≡◌, ℕ, ◌<◌, slice_index_or}
use Rattle.nearest_point.proofs.tests.are_ones.Given as goal

abbrev pub invariant-loop-weight : goal.invariant-loop-weight
invariant-loop-weight l = record { ones : (j : ℕ) → j < l.weight-index → slice_index_or l.weights j 0 ≡ 1 }
