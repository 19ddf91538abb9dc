-- A bid and a bidder that keep the rules of a book, apart from those before them.
use Rattle.std.specs.Prelude.{◌≡◌, ℕ, ◌≤◌, IsTrue, List, length}
use Rattle.std.specs.List.{AllByRecursion}
use Rattle.auction_model.specs.Book.{Bidder, BookBid}
use Rattle.auction_model.specs.Package.{cost_of, is_within}
use Rattle.limits.specs.declared.TheConstants.{MOST_AMOUNT, MOST_BIDS}

pub record IsSoundBid (supply reserves : List ℕ) (bid : BookBid) : Type 0 where
  pub categories : length bid.lots ≡ length supply
  pub within : IsTrue (is_within bid.lots supply)
  pub reserve : cost_of reserves bid.lots ≤ bid.amount
  pub top : bid.amount ≤ MOST_AMOUNT

pub record IsSoundBidder (supply reserves : List ℕ) (bidder : Bidder) : Type 0 where
  pub few : length bidder.bids ≤ MOST_BIDS
  pub each : AllByRecursion (IsSoundBid supply reserves) bidder.bids
