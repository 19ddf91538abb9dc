-- The bids so far and what is left give the whole.
use Rattle.std.proofs.Common.{◌≡◌, ◌++◌, length, map}
use Rattle.std.specs.Vec.Iter.{into_iter_items, into_iter_len}
use Rattle.relative_cap.specs.OwnRounds.{bid_value}
use Rattle.bid_desk.proofs.book.listed.Given as goal

abbrev pub invariant-loop-bid : goal.invariant-loop-bid
invariant-loop-bid l = record {
  whole : l.list ++ map bid_value (into_iter_items l.bid-iterator) ≡ map bid_value l.fn.bids.items;
  count : into_iter_len l.bid-iterator ≡ length (into_iter_items l.bid-iterator);
}
