use Rattle.far_num.specs.Pairs.{far_at, near_at}
use Rattle.std.proofs.Common.{unsigned_abs, ℕ, ◌<◌, ◌≤◌}
use Rattle.number_tests.proofs.equations.have_small_parts.Given as goal

abbrev pub invariant-loop-x : goal.invariant-loop-x
invariant-loop-x l = (k : ℕ) → k < l.x-index → (unsigned_abs (far_at l.right k) ≤ l.edge) × (unsigned_abs (near_at l.right k) ≤ l.edge)
