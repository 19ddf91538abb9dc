-- The bidders so far.
use Rattle.std.proofs.Common.{◌≡◌, map}
use Rattle.auction_rules.specs.BookOfLog.{book_bidder}
use Rattle.auction_rules.specs.Rounds.{listing}
use Rattle.bid_desk.specs.BookBids.{bids_by, submitted_in}
use Rattle.bid_desk.proofs.book.bidders_of.Given as goal

abbrev pub invariant-loop-place : goal.invariant-loop-place
invariant-loop-place l = l.bidders ≡ listing (book_bidder l.award (bids_by l.history (map submitted_in l.lists))) l.place
