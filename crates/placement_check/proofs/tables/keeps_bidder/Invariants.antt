use Rattle.slot_places.specs.Board.{board_without}
use Rattle.placement_check.specs.OfferRules.{worth_with}
use Rattle.placement_check.proofs.SetTests.{KeepsBids}
use Rattle.placement_check.proofs.tables.keeps_bidder.Given as goal

-- the bids before this one are tested
abbrev pub invariant-loop-i : goal.invariant-loop-i
invariant-loop-i l = KeepsBids (board_without l.offers.slots.now l.offers.skip) (worth_with l.offers.slots.now l.offers.den l.offers.gains.now) l.table l.set
    l.j l.i
