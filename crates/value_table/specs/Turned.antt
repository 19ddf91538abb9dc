-- The bidders of a book, counted from the first or turned round: then number 1 is the last bidder.
use Rattle.std.specs.Prelude.{ℕ, suc, ◌-◌, ◌<◌, ◌^◌, Bool, if◌then◌else◌, List, length, ℤ}
use Rattle.auction_model.specs.Book.{Book, menu_of, net_of}
use Rattle.auction_model.specs.Lowered.{spread}
use Rattle.auction_model.specs.Menu.{Menu, without}

-- which of n bidders has number j
abbrev pub bidder_at : Bool → ℕ → ℕ → ℕ
bidder_at turned n j = if turned then (suc n - j) else j

-- the bids, by the numbers of the bidders
abbrev pub in_order : Bool → Menu → Menu
in_order turned m = record {
  bidders = m.bidders;
  bids = λ j. m.bids (bidder_at turned m.bidders j);
  lots = λ j. m.lots (bidder_at turned m.bidders j);
}

-- what they are worth, by the numbers of n bidders
abbrev pub worths_in_order : Bool → ℕ → (ℕ → ℕ → ℤ) → ℕ → ℕ → ℤ
worths_in_order turned n worth j = worth (bidder_at turned n j)

-- no lowered sum leaves the range
abbrev pub IsOrderInRange : Bool → Book → ℕ → ℤ → List ℤ → Type 0
IsOrderInRange turned book skip den surplus =
    spread (without (in_order turned (menu_of book)) skip).bids (length book.bidders) (worths_in_order turned (length book.bidders) (net_of book)) den surplus < 2 ^ 120
