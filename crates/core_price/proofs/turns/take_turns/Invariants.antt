-- The rows so far, from which turns go on, and how many turns there may still be.
use Rattle.std.proofs.Common.{◌≡◌, ◌++◌, ◌-◌, ◌^◌, length}
use Rattle.core_price.specs.Rows.{block_choices, block_rows}
use Rattle.core_price.specs.SoFar.{IsSoFar}
use Rattle.core_laws.specs.Winners.{winners_in}
use Rattle.core_price.proofs.turns.take_turns.Given as goal

abbrev pub invariant-turns : goal.invariant-turns
invariant-turns g l = record {
  far : IsSoFar (g.C.Chooser.market l.chooser) (g.C.Chooser.chosen l.chooser) l.weights l.asked.rows.items l.asked.choices.items l.turns;
  rows : l.asked.rows.items ≡ l.fn.asked.rows.items ++ block_rows l.turns;
  choices : l.asked.choices.items ≡ l.fn.asked.choices.items ++ block_choices l.turns;
}

abbrev pub decreases-turns : goal.decreases-turns
decreases-turns g l = 2 ^ winners_in (g.C.Chooser.chosen l.chooser) - length l.turns
