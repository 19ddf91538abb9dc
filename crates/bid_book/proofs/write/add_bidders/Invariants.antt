use Rattle.std.proofs.Common.{◌≡◌, ◌++◌, drop}
use Rattle.bid_book.specs.Written.{bidders_text}
use Rattle.bid_book.proofs.write.add_bidders.Given as goal

abbrev pub invariant-loop-k : goal.invariant-loop-k
invariant-loop-k l = l.text ++ bidders_text (drop l.k l.book.bidders) ≡ l.initial.text ++ bidders_text l.book.bidders
