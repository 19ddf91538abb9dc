use Rattle.slot_places.specs.Board.{board_without}
use Rattle.placement_check.specs.OfferRules.{worth_with}
use Rattle.placement_check.proofs.SetTests.{KeepsTo}
use Rattle.placement_check.proofs.tables.obeys_set.Given as goal

-- the bidders before j are tested
abbrev pub invariant-loop-j : goal.invariant-loop-j
invariant-loop-j l = KeepsTo (board_without l.offers.slots.now l.offers.skip) (worth_with l.offers.slots.now l.offers.den l.offers.gains.now) l.table l.set l.j
