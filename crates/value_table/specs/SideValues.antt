-- The greatest values from two sides of a book: of the bidders up to one, and of those after it.
use Rattle.std.specs.Prelude.{◌≡◌, ℕ, ◌+◌, ◌-◌, ◌<◌, ◌≤◌, ◌^◌, true, nat_le, if◌then◌else◌, List, [], length, slice_index_or, ℤ, pos, ◌+ℤ◌, ◌≤ℤ◌, unsigned_abs}
use Rattle.auction_model.specs.Book.{Book, menu_of, net_of}
use Rattle.auction_model.specs.Menu.{Menu}
use Rattle.auction_model.specs.Place.{states_of}
use Rattle.auction_model.specs.Table.{IsEntry, IsExactTable, entry_at}
use Rattle.value_table.specs.TableValue.{TableValue, IsTableOf, IsPlain}
use Rattle.value_table.specs.Turned.{in_order, worths_in_order}

-- these bids, but the bidders after `last` have none
abbrev pub up_to : Menu → ℕ → Menu
up_to m last = record { bidders = m.bidders; bids = λ j. if nat_le j last then m.bids j else 0; lots = m.lots }

-- the greatest net value of a choice that uses only bidders 1 to k and fits what is left
abbrev pub IsLeftEntry : Book → ℕ → List ℕ → ℤ → Type 0
IsLeftEntry book k left most = IsEntry (up_to (menu_of book) k) (net_of book) 0 left most

-- the greatest net value of a choice that uses only bidders after k and fits what is left
abbrev pub IsRightEntry : Book → ℕ → List ℕ → ℤ → Type 0
IsRightEntry book k left most = IsEntry (menu_of book) (net_of book) k left most

pub record SidesValue : Type 0 where
  pub bidders : ℕ
  pub states : ℕ
  -- the table of all bids
  pub right : TableValue
  -- the table of all bids, with the bidders turned round
  pub left : List (List ℤ)

-- these lines are an exact table of the net amounts, with the bidders turned round
abbrev pub IsTurnedTable : Book → List (List ℤ) → Type 0
IsTurnedTable book lines = IsExactTable (in_order true (menu_of book)) (worths_in_order true (length book.bidders) (net_of book)) book.supply lines

-- the sides are this book's
pub record AreSidesOf (book : Book) (sides : SidesValue) : Type 0 where
  pub bidders : sides.bidders ≡ length book.bidders
  pub states : sides.states ≡ states_of book.supply
  pub right : IsTableOf book sides.right
  pub plain : IsPlain sides.right
  pub left : IsTurnedTable book sides.left

-- a line for each bidder and one more, each with a number for each state, and none of them large
pub record AreFullLines (bidders states : ℕ) (lines : List (List ℤ)) : Type 0 where
  pub count : length lines ≡ bidders + 1
  pub places : (k : ℕ) → k ≤ bidders → length (slice_index_or lines k []) ≡ states
  pub sizes : (k s : ℕ) → k ≤ bidders → unsigned_abs (entry_at lines k s) ≤ 2 ^ 120

-- what all sides keep
pub record AreFullSides (sides : SidesValue) : Type 0 where
  pub states : 0 < sides.states
  pub right : AreFullLines sides.bidders sides.states sides.right.lines
  pub left : AreFullLines sides.bidders sides.states sides.left

-- the greatest sum of a number of one line and the number of the other as far from its end
pub record IsGreatestPair (states : ℕ) (before after : List ℤ) (most : ℤ) : Type 0 where
  pub reached : (s : ℕ) × (s < states)
      × (most ≡ slice_index_or before s (pos 0) +ℤ slice_index_or after (states - 1 - s) (pos 0))
  pub bound : (s : ℕ) → s < states
      → (slice_index_or before s (pos 0) +ℤ slice_index_or after (states - 1 - s) (pos 0)) ≤ℤ most
