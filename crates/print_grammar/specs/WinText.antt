-- What is printed of a choice of a book: a line for each winner in order, and the net value.
use Rattle.std.specs.Prelude.{ℕ, zero, suc, List, [], ◌∷◌, ◌++◌, codes, ℤ}
use Rattle.std.specs.Fmt.{signed_decimal}
use Rattle.auction_model.specs.Book.{Book, BookBid, bid_of, bidder_of, market_of}
use Rattle.auction_model.specs.Market.{value_of}
use Rattle.line_format.specs.Decimals.{decimals_text}

abbrev pub winner_line : List ℕ → BookBid → List ℕ
winner_line name bid = codes "winner " ++ name ++ decimals_text (bid.lots ++ bid.amount ∷ []) ++ codes "\n"

-- the lines of the winners after bidder k
abbrev pub winner_lines : Book → ℕ → List ℕ → List ℕ
winner_lines book k [] = []
winner_lines book k (zero ∷ c) = winner_lines book (suc k) c
winner_lines book k (suc i ∷ c) = winner_line (bidder_of book (suc k)).name (bid_of book (suc k) (suc i)) ++ winner_lines book (suc k) c

abbrev pub net_line : ℤ → List ℕ
net_line value = codes "net " ++ signed_decimal value ++ codes "\n"

abbrev pub win_text : Book → List ℕ → List ℕ
win_text book c = winner_lines book 0 c ++ net_line (value_of (market_of book) c)
