-- What putting a bid in, or taking one out, makes of the entries of a bidder.
use Rattle.std.specs.Prelude.{◌≡◌, ℕ, List, map}
use Rattle.std.specs.List.{All}
use Rattle.auction_model.specs.Entries.{with_entry}
use Rattle.bid_book.specs.declared.book.Entry.{Entry}
use Rattle.bid_book.specs.Fields.{bid_value, HasNet}
use Rattle.bid_book.specs.Better.{AreBetter}

-- an entry without what is kept with it as better
abbrev pub bare : Entry → Entry
bare e = record { bid = e.bid; net = e.net; better = 0 }

-- the same bids with their net amounts, and what is kept with each as better is right
pub record AreSettled (from to : List Entry) : Type 0 where
  pub same : map bare to ≡ map bare from
  pub betters : AreBetter to

-- the entries with one put in
pub record IsPutIn (old : List Entry) (entry : Entry) (new : List Entry) : Type 0 where
  pub bids : map bid_value new ≡ with_entry entry.bid.package entry.bid.amount (map bid_value old)
  pub nets : (reserves : List ℕ) → All (HasNet reserves) old → HasNet reserves entry → All (HasNet reserves) new
  pub betters : AreBetter new
