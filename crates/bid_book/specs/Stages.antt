-- The stages of reading a book, and which lines bring the reader from one to the next. They serve the reader's own
-- contracts. The meaning of bytes as a book is defined without them.
use Rattle.std.specs.Prelude.{◌≡◌, ◌≢◌, ◌⊎◌, ℕ, ◌+◌, ◌-◌, ◌<◌, Option, None, List, [], ◌∷◌, ◌++◌, codes, length, slice_set}
use Rattle.std.specs.List.{AllByRecursion}
use Rattle.auction_model.specs.Book.{Bidder, Book, BookBid, bidder_of, bidder_with, bids_of, with_bidders}
use Rattle.book_grammar.specs.BookForm.{IsName, IsOffer, AreReserves, IsBid, empty_package}
use Rattle.book_grammar.specs.BookLines.{Excess, supply_excess, bidder_excess, bid_excess, supply_line, reserve_line, bidder_line, bid_line}
use Rattle.bid_book.specs.declared.read.Stage.{Stage}
use Rattle.bid_book.specs.declared.read.Stage.TheVariants.{Start, Headed, Supplied, Listing, Ended}

-- the package of the last bid, or the one before the first
abbrev pub last_lots : List ℕ → List BookBid → List ℕ
last_lots before [] = before
last_lots before (b ∷ bs) = last_lots b.lots bs

-- the book before its first bidder
abbrev pub opened : List ℕ → List ℕ → Book
opened supply reserves = record { supply = supply; reserves = reserves; bidders = [] }

-- the line of a bidder: the book with that bidder
pub record AddsBidder (old new : Book) (line : List ℕ) : Type 0 where
  pub name : List ℕ
  pub spelled : line ≡ (bidder_line 0 name).0
  pub valid : IsName name
  pub unused : AllByRecursion (λ b. b.name ≢ name) old.bidders
  pub new_is : new ≡ with_bidders old (old.bidders ++ bidder_with name [] ∷ [])

-- the bids of the last bidder, and the package that comes before the next of them
abbrev pub last_bids : Book → List BookBid
last_bids book = bids_of book (length book.bidders)

abbrev pub lots_before : Book → List ℕ
lots_before book = last_lots (empty_package book.supply) (last_bids book)

-- the book with a bid more of its last bidder
abbrev pub with_bid : Book → BookBid → Book
with_bid book bid =
    let bidder = bidder_with (bidder_of book (length book.bidders)).name (last_bids book ++ bid ∷ []) in
    with_bidders book (slice_set book.bidders (length book.bidders - 1) bidder)

-- the line of a bid: the book with that bid
pub record AddsBid (old new : Book) (line : List ℕ) : Type 0 where
  pub bid : BookBid
  pub some : 0 < length old.bidders
  pub spelled : line ≡ (bid_line 0 bid).0
  pub valid : IsBid old.supply old.reserves (lots_before old) bid
  pub new_is : new ≡ with_bid old bid

abbrev pub Adds : Book → Book → List ℕ → Type 0
Adds old new line = AddsBidder old new line ⊎ AddsBid old new line

abbrev pub Step : Stage → List ℕ → Stage → Type 0
Step Start line next = (line ≡ codes "book 1") × (next ≡ Headed)
Step Headed line next = (supply : List ℕ) × (line ≡ (supply_line supply).0) × IsOffer supply × (next ≡ Supplied supply)
Step (Supplied supply) line next =
    (reserves : List ℕ) × (line ≡ (reserve_line reserves).0) × AreReserves supply reserves
    × (next ≡ Listing (opened supply reserves))
Step (Listing book) line next = ((line ≡ codes "end") × (next ≡ Ended book)) ⊎ ((new : Book) × Adds book new line × (next ≡ Listing new))
Step (Ended book) line next = ⊥

abbrev pub bids_excess : ℕ → List BookBid → Option Excess
bids_excess bidders [] = bidder_excess bidders
bids_excess bidders (b ∷ bs) = bid_excess (length (b ∷ bs))

-- what the last line exceeds, by the last bidder
abbrev pub last_excess : ℕ → List Bidder → Option Excess
last_excess before [] = None
last_excess before (b ∷ []) = bids_excess (before + 1) b.bids
last_excess before (b ∷ c ∷ bs) = last_excess (before + 1) (c ∷ bs)

-- what the line that led to the stage exceeds
abbrev pub excess : Stage → Option Excess
excess Start = None
excess Headed = None
excess (Supplied supply) = supply_excess supply
excess (Listing book) = last_excess 0 book.bidders
excess (Ended book) = None
