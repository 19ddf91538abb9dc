use Rattle.std.proofs.Common.{map, pos}
use Rattle.value_table.proofs.RowSteps.{AreRowsSoFar}
use Rattle.value_table.proofs.rows.raise_by_fours.Given as goal

abbrev pub invariant-loop-row : goal.invariant-loop-row
invariant-loop-row g l =
    AreRowsSoFar l.rows (map (λ n. pos n) l.below) (pos l.worth) (map (λ n. pos n) l.initial.line) (map (λ n. pos n) l.line) l.row
