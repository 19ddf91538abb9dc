-- A book with other bids of one bidder: one more, one with another amount, or one less.
use Rattle.std.specs.Prelude.{◌≡◌, ◌⊎◌, ℕ, ◌-◌, ◌<◌, ◌≤◌, true, false, IsTrue, IsFalse, List, [], length, slice_index_or, slice_set}
use Rattle.std.specs.List.{remove}
use Rattle.auction_model.specs.Book.{Book, BookBid, bidder_of, bidder_with, bids_of, lots_of, no_bid, with_bidders}
use Rattle.auction_model.specs.Package.{cost_of, is_within}
use Rattle.auction_model.specs.Entries.{with_entry}
use Rattle.auction_model.specs.PackageTests.{is_before}
use Rattle.limits.specs.declared.TheConstants.{MOST_AMOUNT, MOST_BIDS}

-- the book with these bids of bidder j
abbrev pub with_bids : Book → ℕ → List BookBid → Book
with_bids book j bids = with_bidders book (slice_set book.bidders (j - 1) (bidder_with (bidder_of book j).name bids))

-- the book with this bid of bidder j: instead of its bid for the package, or else in the order of packages
abbrev pub with_put : Book → ℕ → BookBid → Book
with_put book j bid = with_bids book j (with_entry bid.lots bid.amount (bids_of book j))

-- the book without bid i of bidder j
abbrev pub without_bid : Book → ℕ → ℕ → Book
without_bid book j i = with_bids book j (remove (bids_of book j) (i - 1))

-- the package of each bid comes before the packages of all later ones
abbrev pub InPackageOrder : List BookBid → Type 0
InPackageOrder bids = (k i : ℕ) → k < i → i < length bids
    → is_before (slice_index_or bids k no_bid).lots (slice_index_or bids i no_bid).lots ≡ true

-- the bids before this place are those whose packages come before these lots
pub record IsPlaceIn (bids : List BookBid) (lots : List ℕ) (place : ℕ) : Type 0 where
  pub last : place ≤ length bids
  pub before : (k : ℕ) → k < place → is_before (slice_index_or bids k no_bid).lots lots ≡ true
  pub behind : place < length bids → is_before (slice_index_or bids place no_bid).lots lots ≡ false

-- bid i of bidder j is for these lots
pub record IsBidFor (book : Book) (j : ℕ) (lots : List ℕ) (i : ℕ) : Type 0 where
  pub some : 0 < i
  pub known : i ≤ length (bids_of book j)
  pub own : lots_of book j i ≡ lots

-- what a bid of bidder j has to keep, so that the book keeps its rules if it is inserted
pub record CanPut (book : Book) (j : ℕ) (bid : BookBid) : Type 0 where
  pub some : 0 < j
  pub known : j ≤ length book.bidders
  pub categories : length bid.lots ≡ length book.supply
  pub within : IsTrue (is_within bid.lots book.supply)
  pub lots : IsFalse (is_within bid.lots [])
  pub reserve : cost_of book.reserves bid.lots ≤ bid.amount
  pub top : bid.amount ≤ MOST_AMOUNT
  -- the bidder has a bid for the package, or room for one more
  pub room : ((i : ℕ) × IsBidFor book j bid.lots i) ⊎ (length (bids_of book j) < MOST_BIDS)
