-- The place of a package in a list in order, counted from 0.
use Rattle.std.specs.Prelude.{◌≡◌, ℕ, ◌≤◌, ◌<◌, true, false, List, [], length, map, slice_index_or}
use Rattle.auction_model.specs.PackageTests.{is_before}
use Rattle.lots.specs.declared.«package».Bid.{Bid}
use Rattle.relative_cap.specs.OwnRounds.{entry_lots}

-- the package of the entry at a place
abbrev pub lots_at : List Bid → ℕ → List ℕ
lots_at list k = slice_index_or (map entry_lots list) k []

-- the packages before the place come before this one
abbrev pub AreBefore : List Bid → List ℕ → ℕ → Type 0
AreBefore list lots place = (k : ℕ) → k < place → is_before (lots_at list k) lots ≡ true

-- from the place on none comes before this one
abbrev pub AreBehind : List Bid → List ℕ → ℕ → Type 0
AreBehind list lots place = (k : ℕ) → place ≤ k → k < length list → is_before (lots_at list k) lots ≡ false

pub record IsPlace (list : List Bid) (lots : List ℕ) (place : ℕ) : Type 0 where
  pub last : place ≤ length list
  pub before : AreBefore list lots place
  pub behind : AreBehind list lots place
