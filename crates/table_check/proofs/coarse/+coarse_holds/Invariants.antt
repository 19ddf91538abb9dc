use Rattle.std.proofs.Common.{drop, length}
use Rattle.auction_model.specs.Place.{states_of}
use Rattle.table_check.proofs.CornerLaws.{PartsKeep}
use Rattle.table_check.proofs.coarse.+coarse_holds.Given as goal

abbrev pub decreases-coarse_holds : goal.decreases-coarse_holds
decreases-coarse_holds l = length l.block.now.lots.now

abbrev pub invariant-loop-digit : goal.invariant-loop-digit
invariant-loop-digit l =
    PartsKeep l.rest.supply.now l.rest.lots.now l.count (states_of (drop 1 l.block.supply.now)) l.digit l.lines.narrow.line.now l.lines.narrow.below.now l.rule.worth
