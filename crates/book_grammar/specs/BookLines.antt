-- The lines of a book, each with the limit that it exceeds.
use Rattle.std.specs.Prelude.{◌≡◌, ℕ, ◌+◌, Option, Some, None, List, [], ◌∷◌, ◌++◌, codes, length, sum, nat_le, nat_lt, if◌then◌else◌}
use Rattle.line_format.specs.LineText.{first_excess}
use Rattle.auction_model.specs.Place.{states_of}
use Rattle.auction_model.specs.Book.{BookBid, Bidder, Book}
use Rattle.book_grammar.specs.BookForm.{IsBook}
use Rattle.limits.specs.declared.TheConstants.{MOST_BIDDERS, MOST_BIDS, MOST_CATEGORIES, MOST_LOTS, MOST_STATES}
use Rattle.limits.specs.declared.LimitKind.{LimitKind}
use Rattle.limits.specs.declared.LimitKind.TheVariants.{Categories, Lots, States, Bidders, Bids}
use Rattle.line_format.specs.Decimals.{decimals_text}

-- a quantity above its limit, with its count
abbrev pub Excess : Type 0
Excess = LimitKind × ℕ

abbrev pub Line : Type 0
Line = List ℕ × Option Excess

abbrev pub supply_excess : List ℕ → Option Excess
supply_excess supply =
    if nat_lt MOST_CATEGORIES (length supply) then Some (Categories, length supply) else
    if nat_lt MOST_LOTS (sum supply) then Some (Lots, sum supply) else
    if nat_lt MOST_STATES (states_of supply) then Some (States, states_of supply) else None

abbrev pub bidder_excess : ℕ → Option Excess
bidder_excess count = if nat_le count MOST_BIDDERS then None else Some (Bidders, MOST_BIDDERS + 1)

abbrev pub bid_excess : ℕ → Option Excess
bid_excess count = if nat_le count MOST_BIDS then None else Some (Bids, MOST_BIDS + 1)

abbrev pub supply_line : List ℕ → Line
supply_line supply = (codes "supply" ++ decimals_text supply, supply_excess supply)

abbrev pub reserve_line : List ℕ → Line
reserve_line reserves = (codes "reserve" ++ decimals_text reserves, None)

-- the bid after that many others of its bidder
abbrev pub bid_line : ℕ → BookBid → Line
bid_line before b = (codes "bid" ++ decimals_text (b.lots ++ b.amount ∷ []), bid_excess (before + 1))

abbrev pub bid_lines : ℕ → List BookBid → List Line
bid_lines before [] = []
bid_lines before (b ∷ bs) = bid_line before b ∷ bid_lines (before + 1) bs

-- the bidder after that many others
abbrev pub bidder_line : ℕ → List ℕ → Line
bidder_line before name = (codes "bidder " ++ name, bidder_excess (before + 1))

abbrev pub bidder_lines : ℕ → List Bidder → List Line
bidder_lines before [] = []
bidder_lines before (b ∷ bs) = (bidder_line before b.name ∷ bid_lines 0 b.bids) ++ bidder_lines (before + 1) bs

abbrev pub head_lines : Book → List Line
head_lines book = (codes "book 1", None) ∷ supply_line book.supply ∷ reserve_line book.reserves ∷ []

abbrev pub book_lines : Book → List Line
book_lines book = head_lines book ++ bidder_lines 0 book.bidders ++ (codes "end", None) ∷ []

-- a book that has a text where nothing exceeds a limit
pub record IsBookWithinLimits (book : Book) : Type 0 where
  pub form : IsBook book
  pub limits : first_excess (book_lines book) ≡ None
