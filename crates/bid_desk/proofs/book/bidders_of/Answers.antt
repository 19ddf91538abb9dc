-- One bidder more.
use Rattle.std.proofs.Common.{map}
use Rattle.clock_stage.specs.Kept.{categories_in}
use Rattle.relative_cap.specs.OwnRounds.{bid_value}
use Rattle.bid_desk.proofs.BookLaws.{bidders-more, booked-at}
use Rattle.bid_desk.proofs.book.bidders_of.Goals as goal

pub bidder_of-requires-clause-submitted : goal.bidder_of-requires-clause-submitted
bidder_of-requires-clause-submitted c =
    booked-at (categories_in c.args.history.now) c.args.lists.now c.loop-place.place c.index-lists-place.result
    (map bid_value c.submitted.result.now) c.requires.each c.loop-place-test.true
    c.index-lists-place.is c.submitted.ensures

pub loop-place-preserved : goal.loop-place-preserved
loop-place-preserved c =
    bidders-more c.args.award.now c.args.history.now c.args.lists.now c.loop-place.place c.index-lists-place.result c.in_ok-bidder.bidder.name
    (map bid_value c.submitted.result.now)
    c.in_ok-bidder.bidder.bids c.loop-place.bidders c.push.new.self c.loop-place-test.true c.index-lists-place.is c.submitted.ensures
    c.in_ok-bidder.ensures.name c.in_ok-bidder.ensures.bids
    c.loop-place.invariant c.in_ok-push.ensures.pushed
