-- The bids of a bidder in the book, one bid after the other, and what the book is made of.
use Rattle.std.specs.Prelude.{◌≡◌, ℕ, ◌-◌, ◌≤◌, max, false, List, [], ◌++◌, length, map, slice_index_or, if◌then◌else◌}
use Rattle.std.specs.List.{All, AllByRecursion}
use Rattle.auction_model.specs.Book.{BookBid}
use Rattle.auction_rules.specs.BookOfLog.{best_bids}
use Rattle.auction_rules.specs.Caps.{clock_bid, greatest}
use Rattle.auction_model.specs.Entries.{with_entry}
use Rattle.auction_model.specs.PackageTests.{is_empty}
use Rattle.auction_rules.specs.State.{Round}
use Rattle.auction_rules.specs.Terms.{Terms}
use Rattle.clock_stage.specs.Kept.{bidders_in, categories_in}
use Rattle.relative_cap.specs.OwnRounds.{rounds_of}
use Rattle.bid_desk.specs.Lists.{IsKept, Lists}

-- the list with the greater of this amount and the list's own for the package
abbrev pub with_greater : List ℕ → ℕ → List BookBid → List BookBid
with_greater lots amount list = with_entry lots (max amount (greatest lots list)) list

-- the list with a bid, unless that is for the empty package
abbrev pub with_most : BookBid → List BookBid → List BookBid
with_most b list = if is_empty b.lots then list else with_greater b.lots b.amount list

-- a list of that many categories that may be in a book: no entry is for the empty package
pub record IsBooked (categories : ℕ) (list : List BookBid) : Type 0 where
  pub kept : IsKept categories list
  pub some : AllByRecursion (λ b. is_empty b.lots ≡ false) list

-- the submitted list
abbrev pub submitted_in : Lists → List BookBid
submitted_in lists = lists.submitted

-- the bids of bidder j in the book, by the closed rounds and the submitted lists of all bidders
abbrev pub bids_by : List Round → List (List BookBid) → ℕ → List BookBid
bids_by rounds submitted j = best_bids (map clock_bid (rounds_of j rounds) ++ slice_index_or submitted (j - 1) [])

-- a round and a list for each bidder of the award, with the award's categories
pub record AreBooked (terms : Terms) (rounds : List Round) (submitted : List (List BookBid)) : Type 0 where
  pub some : 1 ≤ length rounds
  pub bidders : bidders_in rounds ≡ length terms.bidders
  pub count : length submitted ≡ length terms.bidders
  pub each : All (IsBooked (categories_in rounds)) submitted
