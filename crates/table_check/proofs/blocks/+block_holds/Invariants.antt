use Rattle.std.proofs.Common.{drop, length}
use Rattle.auction_model.specs.Place.{states_of}
use Rattle.table_check.proofs.CornerLaws.{PartsKeep}
use Rattle.table_check.proofs.blocks.+block_holds.Given as goal

abbrev pub decreases-block_holds : goal.decreases-block_holds
decreases-block_holds l = length l.block.now.lots.now

abbrev pub invariant-loop-digit : goal.invariant-loop-digit
invariant-loop-digit l =
    PartsKeep l.rest.supply.now l.rest.lots.now l.count (states_of (drop 1 l.block.supply.now)) l.digit l.lines.line.now l.lines.below.now l.rule.worth
