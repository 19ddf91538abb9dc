use Rattle.std.proofs.Common.{◌*◌, drop}
use Rattle.auction_model.specs.Place.{states_of}
use Rattle.table_check.specs.Faults.{FirstFault, CoversSome}
use Rattle.table_check.proofs.walk.two_fault.Given as goal

abbrev pub invariant-loop-digit : goal.invariant-loop-digit
invariant-loop-digit l =
    FirstFault (CoversSome l.rule l.base l.block.supply.now l.block.lots.now (l.digit * states_of (drop 1 l.block.supply.now))) l.until l.found
