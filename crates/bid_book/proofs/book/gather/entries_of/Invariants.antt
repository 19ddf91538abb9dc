use Rattle.std.proofs.Common.{◌≡◌, length}
use Rattle.std.specs.Vec.Iter.{into_iter_items, into_iter_len}
use Rattle.bid_book.proofs.TakenLaws.{AreTaken}
use Rattle.bid_book.proofs.book.gather.entries_of.Given as goal

abbrev pub invariant-loop-bid : goal.invariant-loop-bid
invariant-loop-bid l = record {
  taken : AreTaken l.supply l.reserves l.fn.bids.items l.entries.items (into_iter_items l.bid-iterator);
  count : into_iter_len l.bid-iterator ≡ length (into_iter_items l.bid-iterator);
}
