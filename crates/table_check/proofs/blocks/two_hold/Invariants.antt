use Rattle.std.proofs.Common.{drop}
use Rattle.auction_model.specs.Place.{states_of}
use Rattle.table_check.proofs.CornerLaws.{PartsKeep}
use Rattle.table_check.proofs.blocks.two_hold.Given as goal

abbrev pub invariant-loop-digit : goal.invariant-loop-digit
invariant-loop-digit l =
    PartsKeep l.row.supply.now l.row.lots.now l.count (states_of (drop 1 l.block.supply.now)) l.digit l.lines.line.now l.lines.below.now l.rule.worth
