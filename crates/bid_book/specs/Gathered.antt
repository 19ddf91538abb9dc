-- Bids and bidders as a book keeps them.
use Rattle.std.specs.Prelude.{◌≡◌, ℕ, List, map}
use Rattle.std.specs.List.{All}
use Rattle.auction_model.specs.Book.{Bidder, BookBid}
use Rattle.bid_book.specs.declared.book.Entry.{Entry}
use Rattle.bid_book.specs.declared.book.BookBidder.{BookBidder}
use Rattle.bid_book.specs.Fields.{bid_value, bidder_value, HasNet}
use Rattle.bid_book.specs.Better.{AreBetter}

-- the entries of these bids
pub record AreEntries (reserves : List ℕ) (bids : List BookBid) (entries : List Entry) : Type 0 where
  pub same : map bid_value entries ≡ bids
  pub nets : All (HasNet reserves) entries
  pub betters : AreBetter entries

-- the bidders of a book with these reserves
pub record AreBookBidders (reserves : List ℕ) (bidders : List Bidder) (held : List BookBidder) : Type 0 where
  pub same : map bidder_value held ≡ bidders
  pub nets : All (λ x. All (HasNet reserves) x.bids.items) held
  pub betters : All (λ x. AreBetter x.bids.items) held
