use Rattle.std.proofs.Common.{ℕ, ◌<◌, pos, ◌≤ℤ◌}
use Rattle.nearest_point.specs.Problem.{bounds}
use Rattle.nearest_point.proofs.tests.are_bounds.Given as goal

abbrev pub invariant-loop-row : goal.invariant-loop-row
invariant-loop-row l = record {
  not_negative : (i : ℕ) → i < l.row-index → pos 0 ≤ℤ bounds l.rows i;
  small : (i : ℕ) → i < l.row-index → bounds l.rows i ≤ℤ l.edge;
}
