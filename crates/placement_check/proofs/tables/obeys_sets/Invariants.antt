use Rattle.slot_places.specs.Board.{board_without}
use Rattle.placement_check.specs.OfferRules.{worth_with}
use Rattle.placement_check.proofs.SetTests.{ObeysTo}
use Rattle.placement_check.proofs.tables.obeys_sets.Given as goal

-- the sets before this one are tested
abbrev pub invariant-loop-set : goal.invariant-loop-set
invariant-loop-set l = ObeysTo (board_without l.offers.slots.now l.offers.skip) (worth_with l.offers.slots.now l.offers.den l.offers.gains.now) l.table l.set
