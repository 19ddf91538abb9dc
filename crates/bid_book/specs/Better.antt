-- Bids that another bid of the same bidder makes needless: it is no larger in any category and worth at least as much.
use Rattle.std.specs.Prelude.{ℕ, ◌-◌, ◌≤◌, ◌<◌, IsTrue, List, length, slice_index_or, ◌≤ℤ◌}
use Rattle.std.specs.List.{All}
use Rattle.auction_model.specs.Book.{Book, lots_of, net_of}
use Rattle.auction_model.specs.Package.{is_within}
use Rattle.bid_book.specs.declared.book.Entry.{Entry}
use Rattle.bid_book.specs.declared.book.BidBook.TheInside.{Inside}

-- bid h of bidder j makes its bid i needless
pub record IsBetter (book : Book) (j i h : ℕ) : Type 0 where
  pub earlier : h < i
  pub smaller : IsTrue (is_within (lots_of book j h) (lots_of book j i))
  pub worth : net_of book j i ≤ℤ net_of book j h

-- the entry with number h among these makes the other needless, if h isn't 0
pub record Beats (bids : List Entry) (entry : Entry) (h : ℕ) : Type 0 where
  pub inside : h ≤ length bids
  pub smaller : (d : Entry) → IsTrue (is_within (slice_index_or bids (h - 1) d).bid.package entry.bid.package)
  pub worth : (d : Entry) → entry.net ≤ℤ (slice_index_or bids (h - 1) d).net

abbrev pub BeatsAmong : List Entry → Entry → ℕ → Type 0
BeatsAmong bids entry h = 0 < h → Beats bids entry h

-- what is kept with each entry as better comes before it
abbrev pub AreBetter : List Entry → Type 0
AreBetter bids = (i : ℕ) (d : Entry) → i < length bids → 0 < (slice_index_or bids i d).better
    → ((slice_index_or bids i d).better ≤ i) × Beats bids (slice_index_or bids i d) (slice_index_or bids i d).better

abbrev pub BettersAreKept : Inside → Type 0
BettersAreKept b = All (λ x. AreBetter x.bids.items) b.bidders.items
