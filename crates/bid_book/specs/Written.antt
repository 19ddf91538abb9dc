-- The bytes of the lines of bids and of bidders.
use Rattle.std.specs.Prelude.{ℕ, List, [], ◌∷◌}
use Rattle.line_format.specs.LineText.{text_of}
use Rattle.auction_model.specs.Book.{Bidder, BookBid}
use Rattle.book_grammar.specs.BookLines.{bid_line, bid_lines, bidder_line, bidder_lines}

abbrev pub bid_text : BookBid → List ℕ
bid_text b = text_of (bid_line 0 b ∷ [])

-- the line of a bidder, and the lines of its
-- bids
abbrev pub bidder_text : Bidder → List ℕ
bidder_text b = text_of (bidder_line 0 b.name ∷ bid_lines 0 b.bids)

abbrev pub bidders_text : List Bidder → List ℕ
bidders_text bs = text_of (bidder_lines 0 bs)
