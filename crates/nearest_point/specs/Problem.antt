-- What the search for the nearest point is given: targets, weights, and rows as sets of bits with bounds.
use Rattle.auction_model.specs.Ones.{AreOnes}
use Rattle.auction_model.specs.Prices.{AreWeights, share}
use Rattle.far_num.specs.Members.{holds}
use Rattle.far_num.specs.declared.Row.{Row}
use Rattle.limits.specs.declared.TheConstants.{MOST_VALUE, MOST_WEIGHTED_VALUE, MOST_WEIGHTED_WINNERS, MOST_WINNERS}
use Rattle.std.specs.Prelude.{List, length, pos, slice_index_or, ℕ, ℤ, ◌<◌, ◌^◌, ◌≡◌, ◌≤ℤ◌, ◌≤◌, ◌⊎◌}
use Rattle.wide_num.specs.Sums.{nth, total}

-- the weight of a coordinate
abbrev pub weight_at : List ℕ → ℕ → ℤ
weight_at weights j = pos (slice_index_or weights j 0)

-- the row at a place, and past the end a row without members
abbrev pub row_at : List Row → ℕ → Row
row_at rows i = slice_index_or rows i (record { members = 0; bound = pos 0 })

-- 1 if the row at place i has the member j, and else 0
abbrev pub coefficients : List Row → ℕ → ℕ → ℤ
coefficients rows i = holds (row_at rows i).members

abbrev pub bounds : List Row → ℕ → ℤ
bounds rows i = (row_at rows i).bound

-- how often the square at a coordinate counts
abbrev pub share_at : List ℕ → ℕ → ℤ
share_at weights j = share (slice_index_or weights j 0)

-- no target is negative, and their sum is at most MOST_VALUE
pub record AreTargets (target : List ℤ) : Type 0 where
  pub not_negative : (j : ℕ) → j < length target → pos 0 ≤ℤ nth target j
  pub sum : total (length target) (nth target) ≤ℤ pos MOST_VALUE

-- no bound is negative, and each is at most MOST_VALUE
pub record AreBounds (rows : List Row) : Type 0 where
  pub not_negative : (i : ℕ) → i < length rows → pos 0 ≤ℤ bounds rows i
  pub small : (i : ℕ) → i < length rows → bounds rows i ≤ℤ pos MOST_VALUE

-- few enough coordinates for weights, and the sum of the targets and each bound are at most MOST_WEIGHTED_VALUE
pub record IsNarrow (target : List ℤ) (rows : List Row) : Type 0 where
  pub few : length target ≤ MOST_WEIGHTED_WINNERS
  pub sum : total (length target) (nth target) ≤ℤ pos MOST_WEIGHTED_VALUE
  pub small : (i : ℕ) → i < length rows → bounds rows i ≤ℤ pos MOST_WEIGHTED_VALUE

-- each row has a member, and none is past the coordinates
abbrev pub HasMembers : ℕ → List Row → Type 0
HasMembers m rows = (i : ℕ) → i < length rows → (0 < (row_at rows i).members) × ((row_at rows i).members < 2 ^ m)

-- each single coordinate is a row
abbrev pub HasSingles : ℕ → List Row → Type 0
HasSingles m rows = (j : ℕ) → j < m → (i : ℕ) × (i < length rows) × ((row_at rows i).members ≡ 2 ^ j)

-- A target, weights and rows with a nearest point that the search can compute. There are at most MOST_WINNERS coordinates, and
-- each is a row of its own. If a weight isn't 1, all is narrow.
pub record IsProblem (target : List ℤ) (weights : List ℕ) (rows : List Row) : Type 0 where
  pub few : length target ≤ MOST_WINNERS
  pub weighed : AreWeights (length target) weights
  pub members : HasMembers (length target) rows
  pub singles : HasSingles (length target) rows
  pub targets : AreTargets target
  pub row_bounds : AreBounds rows
  pub sizes : AreOnes (length target) weights ⊎ IsNarrow target rows
