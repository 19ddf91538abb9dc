use Rattle.std.proofs.Common.{◌≡◌, length}
use Rattle.std.specs.Vec.Iter.{into_iter_items, into_iter_len}
use Rattle.bid_book.proofs.TakenLaws.{AreHeld}
use Rattle.bid_book.proofs.book.gather.book_bidders.Given as goal

abbrev pub invariant-loop-bidder : goal.invariant-loop-bidder
invariant-loop-bidder l = record {
  held : AreHeld l.supply l.reserves l.fn.bidders l.held.items (into_iter_items l.bidder-iterator);
  count : into_iter_len l.bidder-iterator ≡ length (into_iter_items l.bidder-iterator);
}
