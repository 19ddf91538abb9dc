use Rattle.std.proofs.Common.{map}
use Rattle.value_table.proofs.RowSteps.{AreRowsSoFar}
use Rattle.value_table.proofs.rows.raise_long.Given as goal

abbrev pub invariant-loop-row : goal.invariant-loop-row
invariant-loop-row l = AreRowsSoFar l.rows (map (λ z. z) l.below) l.worth (map (λ z. z) l.initial.line) (map (λ z. z) l.line) l.row
