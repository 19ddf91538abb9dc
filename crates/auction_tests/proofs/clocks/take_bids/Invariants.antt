-- The clock stays one of the award.
use Rattle.clock_stage.specs.Kept.{IsFor}
use Rattle.auction_tests.proofs.clocks.take_bids.Given as goal

abbrev pub invariant-loop-bidder : goal.invariant-loop-bidder
invariant-loop-bidder g l = IsFor l.award l.clock
