use Rattle.std.proofs.Common.{map}
use Rattle.bid_book.specs.Fields.{bid_value}
use Rattle.bid_book.proofs.PlaceLaws.{AllBefore}
use Rattle.bid_book.proofs.book.changes.place_of.Given as goal

abbrev pub invariant-loop-place : goal.invariant-loop-place
invariant-loop-place l = AllBefore (map bid_value l.bids) l.wanted l.place
