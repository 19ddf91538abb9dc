-- The exact table: in line k at a place, the greatest sum of a choice of the bidders after k within what the place leaves.
use Rattle.std.specs.Prelude.{◌≡◌, ℕ, suc, ◌≤◌, ◌<◌, List, [], ◌∷◌, length, slice_index_or, ℤ, pos}
use Rattle.auction_model.specs.Market.{sum_after}
use Rattle.auction_model.specs.Greatest.{IsGreatestValue}
use Rattle.auction_model.specs.Menu.{Menu, fits_after}
use Rattle.auction_model.specs.Place.{states_of, left_at}

abbrev pub entry_at : List (List ℤ) → ℕ → ℕ → ℤ
entry_at table k s = slice_index_or (slice_index_or table k []) s (pos 0)

-- the greatest sum of what the bidders after k count, by a choice that fits what is left
abbrev pub IsEntry : Menu → (ℕ → ℕ → ℤ) → ℕ → List ℕ → ℤ → Type 0
IsEntry m counts k left most = IsGreatestValue (fits_after m k left) (sum_after counts k) most

-- one line: an entry for each place
pub record IsLine (m : Menu) (counts : ℕ → ℕ → ℤ) (supply : List ℕ) (k : ℕ) (line : List ℤ) : Type 0 where
  pub places : length line ≡ states_of supply
  pub exact : (s : ℕ) → s < states_of supply → IsEntry m counts k (left_at supply s) (slice_index_or line s (pos 0))

-- the table: lines 0 to the number of bidders
pub record IsExactTable (m : Menu) (counts : ℕ → ℕ → ℤ) (supply : List ℕ) (table : List (List ℤ)) : Type 0 where
  pub lines : length table ≡ suc m.bidders
  pub exact : (k : ℕ) → k ≤ m.bidders → IsLine m counts supply k (slice_index_or table k [])

-- the lines from line k to the one before line `last`
abbrev pub AreLinesTo : Menu → (ℕ → ℕ → ℤ) → List ℕ → ℕ → ℕ → List (List ℤ) → Type 0
AreLinesTo m counts supply last k [] = k ≡ last
AreLinesTo m counts supply last k (line ∷ lines) = IsLine m counts supply k line
    × AreLinesTo m counts supply last (suc k) lines
