use Rattle.bid_book.proofs.SettleLaws.{AreSettledTo}
use Rattle.bid_book.proofs.book.changes.settle.Given as goal

abbrev pub invariant-loop-i : goal.invariant-loop-i
invariant-loop-i l = AreSettledTo l.initial.bids l.bids l.i
