use Rattle.std.proofs.Common.{ℕ, ◌<◌}
use Rattle.nearest_point.specs.Problem.{row_at}
use Rattle.nearest_point.proofs.tests.have_members.Given as goal

abbrev pub invariant-loop-row : goal.invariant-loop-row
invariant-loop-row l = record { members : (i : ℕ) → i < l.row-index → (0 < (row_at l.rows i).members) × ((row_at l.rows i).members < l.end) }
