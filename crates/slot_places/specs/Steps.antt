-- The steps that fill the table over sets: terms of private contracts.
use Rattle.std.specs.Prelude.{◌≡◌, ℕ, ◌+◌, ◌^◌, ◌<◌, ◌≤◌, Bool, false, IsTrue, List, length, slice_index_or, ℤ, ◌≤ℤ◌, ◌<ℤ◌}
use Rattle.auction_model.specs.Lowered.{lowered}
use Rattle.auction_model.specs.Market.{is_earlier, number_of}
use Rattle.slot_places.specs.Slots.{amount_of}
use Rattle.slot_places.specs.Board.{Board, joined, outside, can_place, board_without}
use Rattle.slot_places.specs.SetTable.{holds, fits_behind, sum_outside, IsSetBest}
use Rattle.slot_places.specs.declared.search.Search.{Search}
use Rattle.slot_places.specs.declared.bests.Best.{Best}

-- bidder j is placed next after a set, and then that many others
pub record Next (b : Board) (c : List ℕ) (left : ℕ) (s : ℕ → Bool) (j : ℕ) : Type 0 where
  pub some : 0 < j
  pub low : j ≤ b.bidders
  pub new : s j ≡ false
  pub may : IsTrue (b.may s j (number_of c j))
  pub rest : IsTrue (can_place b c left (joined j s))

-- c is no worse than d: it has no smaller value, and if d comes before it, a greater one
pub record IsBefore (value : List ℕ → ℤ) (c d : List ℕ) : Type 0 where
  pub most : value d ≤ℤ value c
  pub first : IsTrue (is_earlier d c) → value d <ℤ value c

-- the bidders and bids of a search
abbrev pub searched : Search → Board
searched l = board_without l.slots.now l.skip

-- what each counts, by its bidder and its number
abbrev pub counted : Search → ℕ → ℕ → ℤ
counted l = lowered l.den (amount_of l.slots.now) l.surplus.now

-- a choice that fits after a set of bits, with its sum
pub record IsHeld (l : Search) (set : ℕ) (best : Best) : Type 0 where
  pub fits : IsTrue (fits_behind (searched l) (holds set) best.numbers.items)
  pub sum : best.sum ≡ sum_outside (holds set) (counted l) best.numbers.items

-- the best of these
pub record IsBestOf (l : Search) (set : ℕ) (best : Best) : Type 0 where
  pub first : IsSetBest (searched l) (counted l) (holds set) best.numbers.items
  pub sum : best.sum ≡ sum_outside (holds set) (counted l) best.numbers.items

-- no worse than each choice that fits after the set with bidder j next, with a number that passes
abbrev pub IsBestNext : Search → ℕ → ℕ → (ℕ → Type 0) → List ℕ → Type 0
IsBestNext l set j Passes best = (c : List ℕ) → IsTrue (fits_behind (searched l) (holds set) c)
    → Next (searched l) c (outside (joined j (holds set)) (searched l).bidders) (holds set) j → Passes (number_of c j)
    → IsBefore (sum_outside (holds set) (counted l)) best c

-- no worse than each where one of the bidders 1 to k is next
abbrev pub IsBestTo : Search → ℕ → ℕ → List ℕ → Type 0
IsBestTo l set k best = (j : ℕ) → j ≤ k → IsBestNext l set j (λ i. i ≤ (searched l).bids j) best

-- the bests of the sets from one on
pub record AreBests (l : Search) (set : ℕ) (bests : List Best) : Type 0 where
  pub count : set + length bests ≡ 2 ^ (searched l).bidders
  pub each : (x : ℕ) (other : Best) → x < length bests → IsBestOf l (set + x) (slice_index_or bests x other)

-- bidder j is outside a set and can be given its number after it
pub record CanFollow (b : Board) (c : List ℕ) (s : ℕ → Bool) (j : ℕ) : Type 0 where
  pub some : 0 < j
  pub low : j ≤ b.bidders
  pub new : s j ≡ false
  pub may : IsTrue (b.may s j (number_of c j))

-- j is the smallest bidder that can be next after a set, such that that many others can be placed after it
pub record IsFirstNext (b : Board) (c : List ℕ) (left : ℕ) (s : ℕ → Bool) (j : ℕ) : Type 0 where
  pub next : Next b c left s j
  pub first : (h : ℕ) → h < j → Next b c left s h → ⊥
