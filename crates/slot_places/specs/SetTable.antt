-- The exact table over sets of bidders: for each set the greatest sum that the bidders outside it can still count, if the
-- bidders of the set are placed first. Bit j - 1 of a set stands for bidder j.
use Rattle.std.specs.Prelude.{◌≡◌, ℕ, suc, ◌+◌, ◌-◌, ◌*◌, ◌^◌, ◌<◌, ◌≤◌, Bool, true, ◌&&◌, ◌||◌, not, ◌==◌, if◌then◌else◌, IsTrue, List, [], ◌∷◌, length, slice_index_or, ℤ, pos, unsigned_abs}
use Rattle.std.specs.Int.{bit_at}
use Rattle.auction_model.specs.Lowered.{of_bidder, sum_to}
use Rattle.auction_model.specs.Market.{number_of, sum_after}
use Rattle.auction_model.specs.Greatest.{IsFirstGreatest, IsGreatestValue}
use Rattle.slot_places.specs.Board.{Board, outside, is_known, can_place, is_placed}

-- the bidders of a set of bits
abbrev pub holds : ℕ → ℕ → Bool
holds bits j = bit_at bits (j - 1) == 1

-- each bidder of the set after k has number 0
abbrev pub is_idle_in : (ℕ → Bool) → ℕ → List ℕ → Bool
is_idle_in s k [] = true
is_idle_in s k (i ∷ c) = (not (s (suc k)) || (i == 0)) && is_idle_in s (suc k) c

-- a known choice where the bidders of the set have 0, and those outside can be placed after it
abbrev pub fits_behind : Board → (ℕ → Bool) → List ℕ → Bool
fits_behind b s c = (is_known b c && is_idle_in s 0 c) && can_place b c (outside s b.bidders) s

-- what the bidders outside the set count
abbrev pub counts_outside : (ℕ → Bool) → (ℕ → ℕ → ℤ) → ℕ → ℕ → ℤ
counts_outside s counts j i = if s j then pos 0 else counts j i

abbrev pub sum_outside : (ℕ → Bool) → (ℕ → ℕ → ℤ) → List ℕ → ℤ
sum_outside s counts c = sum_after (counts_outside s counts) 0 c

-- an entry of the table
abbrev pub IsSetEntry : Board → (ℕ → ℕ → ℤ) → (ℕ → Bool) → ℤ → Type 0
IsSetEntry b counts s most = IsGreatestValue (fits_behind b s) (sum_outside s counts) most

-- the first of the choices that reach it
abbrev pub IsSetBest : Board → (ℕ → ℕ → ℤ) → (ℕ → Bool) → List ℕ → Type 0
IsSetBest b counts s c = IsFirstGreatest (fits_behind b s) (sum_outside s counts) c

-- the whole table: one line with an entry for each set
pub record IsSetTable (b : Board) (counts : ℕ → ℕ → ℤ) (table : List (List ℤ)) : Type 0 where
  pub lines : length table ≡ 1
  pub sets : length (slice_index_or table 0 []) ≡ 2 ^ b.bidders
  pub exact : (bits : ℕ) → bits < 2 ^ b.bidders
      → IsSetEntry b counts (holds bits) (slice_index_or (slice_index_or table 0 []) bits (pos 0))

-- no sum of a placed choice leaves the range
abbrev pub StaysInRange : Board → (ℕ → ℕ → ℤ) → ℤ → List ℤ → Type 0
StaysInRange b worth den surplus = (c : List ℕ) → IsTrue (is_placed b c)
    → sum_to (λ j. unsigned_abs den * unsigned_abs (worth j (number_of c j)) + unsigned_abs (of_bidder surplus j)) b.bidders ≤ 2 ^ 120
