-- The lists of one bidder.
use Rattle.std.specs.Prelude.{◌≡◌, ℕ, ◌≤◌, List, length, map, sum}
use Rattle.std.specs.List.{AllByRecursion}
use Rattle.limits.specs.declared.TheConstants.{MOST_AMOUNT, MOST_LOTS}
use Rattle.auction_model.specs.Book.{BookBid}
use Rattle.auction_rules.specs.BookOfLog.{bid_lots}
use Rattle.auction_model.specs.PackageTests.{InOrder}

-- the draft list and the submitted list
pub record Lists : Type 0 where
  pub drafts : List BookBid
  pub submitted : List BookBid

abbrev pub lists_with : List BookBid → List BookBid → Lists
lists_with drafts submitted = record { drafts = drafts; submitted = submitted }

-- an entry of that many categories
pub record IsKeptEntry (categories : ℕ) (b : BookBid) : Type 0 where
  pub count : length b.lots ≡ categories
  pub few : sum b.lots ≤ MOST_LOTS
  pub amount : b.amount ≤ MOST_AMOUNT

-- entries of that many categories, in the order of their packages, each package once
pub record IsKept (categories : ℕ) (list : List BookBid) : Type 0 where
  pub each : AllByRecursion (IsKeptEntry categories) list
  pub order : InOrder (map bid_lots list)
