use Rattle.std.proofs.Common.{◌≡◌, ◌++◌, drop}
use Rattle.line_format.specs.LineText.{text_of}
use Rattle.auction_model.specs.Book.{bids_of}
use Rattle.book_grammar.specs.BookLines.{bid_lines}
use Rattle.bid_book.proofs.write.add_bidder.Given as goal

abbrev pub invariant-loop-i : goal.invariant-loop-i
invariant-loop-i l = l.text ++ text_of (bid_lines 0 (drop l.i (bids_of l.book l.j))) ≡ l.initial.text ++ text_of (bid_lines 0 (bids_of l.book l.j))
