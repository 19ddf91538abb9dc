use Rattle.std.proofs.Common.{◌*◌, drop, length}
use Rattle.auction_model.specs.Place.{states_of}
use Rattle.table_check.specs.Faults.{FirstFault, CoversSome}
use Rattle.table_check.proofs.walk.+block_fault.Given as goal

abbrev pub decreases-block_fault : goal.decreases-block_fault
decreases-block_fault l = length l.block.now.lots.now

abbrev pub invariant-loop-digit : goal.invariant-loop-digit
invariant-loop-digit l =
    FirstFault (CoversSome l.rule l.base l.block.supply.now l.block.lots.now (l.digit * states_of (drop 1 l.block.supply.now))) l.until l.found
