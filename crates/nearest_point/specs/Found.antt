-- What the search keeps: a point and its multipliers by parts, the rows that made it, and their sizes.
use Rattle.far_num.specs.declared.Row.{Row}
use Rattle.limits.specs.declared.TheConstants.{MOST_WINNERS}
use Rattle.nearest_point.specs.Numbers.{AreBelow, at_t, large, place}
use Rattle.auction_model.specs.Ones.{AreOnes}
use Rattle.nearest_point.specs.Problem.{bounds, coefficients, weight_at}
use Rattle.nearest_point.specs.Search.{ByParts, Independent, Near, Owed, gram}
use Rattle.nearest_point.specs.declared.settle.Held.{Held}
use Rattle.nearest_point.specs.declared.settle.Multipliers.{Multipliers}
use Rattle.std.specs.Prelude.{List, [], length, pos, ℕ, ℤ, ◌*ℤ◌, ◌+ℤ◌, ◌-ℤ◌, ◌<ℤ◌, ◌<◌, ◌^◌, ◌≡◌, ◌≤ℤ◌, ◌≤◌}
use Rattle.wide_num.specs.Sums.{dot, nth, total}

-- each place is one of a row
abbrev pub AreWithin : List ℕ → List Row → Type 0
AreWithin forced rows = (i : ℕ) → i < length forced → place forced i < length rows

-- the coefficients of the row that is forced at place i
abbrev pub row_of : List Row → List ℕ → ℕ → ℕ → ℤ
row_of rows forced i = coefficients rows (place forced i)

abbrev pub point_at : Held → ℕ → ℤ
point_at h = at_t large (nth h.far.items) (nth h.near.items)

abbrev pub multiplier_at : Held → ℕ → ℤ
multiplier_at h = at_t large (nth h.first.items) (nth h.second.items)

-- the point is right for the forced rows with equality and the rows from `from` on
abbrev pub IsNear : List ℤ → List ℕ → List Row → List ℕ → ℕ → Held → Type 0
IsNear target weights rows forced from h =
    Near (length target) (length rows) (coefficients rows) (bounds rows) (at_t large (λ j. pos 0 -ℤ weight_at weights j) (nth target)) (weight_at weights)
    forced from h.rows.items h.den (point_at h) (multiplier_at h)

-- some point meets the forced rows with equality and the rows from `from` on, and the forced rows are independent
abbrev pub IsOwed : List ℤ → List Row → List ℕ → ℕ → Type 0
IsOwed target rows forced from = (e : ℤ)
    × ((x : ℕ → ℤ) × Owed (length target) (length rows) (coefficients rows) (bounds rows) forced from e x)

-- the properties of the parts, and their sizes
pub record HasParts (target : List ℤ) (weights : List ℕ) (rows : List Row) (h : Held) : Type 0 where
  pub long_far : length h.far.items ≡ length target
  pub long_near : length h.near.items ≡ length target
  pub long_first : length h.first.items ≡ length h.rows.items
  pub long_second : length h.second.items ≡ length h.rows.items
  pub within : AreWithin h.rows.items rows
  pub parts : ByParts (length target) (coefficients rows) (bounds rows) (nth target) (weight_at weights) h.rows.items h.den (nth h.far.items) (nth h.near.items) (nth h.first.items) (nth h.second.items)
  pub small_den : h.den ≤ℤ pos (320 ^ 4)
  pub ones_den : AreOnes (length target) weights → h.den <ℤ pos (2 ^ 32)
  pub small_far : AreBelow (2 ^ 113) h.far.items
  pub small_near : AreBelow (2 ^ 113) h.near.items
  pub small_first : AreBelow (2 ^ 106) h.first.items
  pub small_second : AreBelow (2 ^ 106) h.second.items

-- the far part of the lowered target: less than 0 by the weight at each coordinate
pub record IsLowered (weights : List ℕ) (lowered : List ℤ) : Type 0 where
  pub long : length lowered ≡ length weights
  pub is : (j : ℕ) → j < length lowered → nth lowered j ≡ pos 0 -ℤ weight_at weights j

-- each number is below 0 by at most the top
abbrev pub IsBelowBy : ℕ → List ℤ → Type 0
IsBelowBy top lowered = (j : ℕ) → j < length lowered → ((pos 0 -ℤ pos top) ≤ℤ nth lowered j) × (nth lowered j ≤ℤ pos 0)

-- the sum of the targets and each bound are at most the edge
pub record IsEdge (edge : ℕ) (target : List ℤ) (rows : List Row) : Type 0 where
  pub sum : total (length target) (nth target) ≤ℤ pos edge
  pub small : (i : ℕ) → i < length rows → bounds rows i ≤ℤ pos edge

-- what the common members of two rows weigh, each weight written below 0
abbrev pub common : ℕ → (ℕ → ℤ) → (ℕ → ℤ) → (ℕ → ℤ) → ℤ
common m a b lowered = total m (λ j. a j *ℤ ((pos 0 -ℤ lowered j) *ℤ b j))

-- the multipliers solve the system of the forced rows in one part, for these targets and bounds
abbrev pub Solves : ℕ → ℕ → (ℕ → ℕ → ℤ) → (ℕ → ℤ) → ℤ → (ℕ → ℤ) → (ℕ → ℤ) → (ℕ → ℤ) → Type 0
Solves m n a weight den multipliers target bound = (i : ℕ) → i < n
    → total n (λ k. gram m a weight i k *ℤ multipliers k) ≡ den *ℤ (bound i -ℤ dot m (a i) target)

-- the multipliers of the forced rows by parts, and their sizes
pub record AreMultipliers (target : List ℤ) (weights : List ℕ) (rows : List Row) (forced : List ℕ) (f : Multipliers) : Type 0 where
  pub positive : pos 0 <ℤ f.den
  pub small_den : f.den ≤ℤ pos (320 ^ 4)
  pub ones_den : AreOnes (length target) weights → f.den <ℤ pos (2 ^ 32)
  pub long_first : length f.first.items ≡ length forced
  pub long_second : length f.second.items ≡ length forced
  pub far : Solves (length target) (length forced) (row_of rows forced) (weight_at weights) f.den (nth f.first.items) (λ j. pos 0 -ℤ weight_at weights j) (λ i. pos 0)
  pub near : Solves (length target) (length forced) (row_of rows forced) (weight_at weights) f.den (nth f.second.items) (nth target) (λ i. bounds rows (place forced i))
  pub small_first : AreBelow (2 ^ 106) f.first.items
  pub small_second : AreBelow (2 ^ 106) f.second.items

-- one part of a point: den times the target, moved at each coordinate by its weight times the multipliers of the rows that
-- contain it
pub record IsPart (rows : List Row) (forced : List ℕ) (weight : ℕ → ℤ) (den : ℤ) (target multipliers point : List ℤ) : Type 0 where
  pub long : length point ≡ length target
  pub at : (j : ℕ) → j < length target
      → nth point j ≡ den *ℤ nth target j +ℤ weight j *ℤ total (length forced) (λ i. nth multipliers i *ℤ row_of rows forced i j)

-- some combination of the forced rows, not all zero, is 0 in each coordinate
abbrev pub AreDependent : List ℤ → List Row → List ℕ → Type 0
AreDependent target rows forced = ¬ Independent (length target) (length forced) (row_of rows forced)

-- the forced rows are independent, and the multipliers are theirs
pub record IsSolved (target : List ℤ) (weights : List ℕ) (rows : List Row) (forced : List ℕ) (f : Multipliers) : Type 0 where
  pub independent : Independent (length target) (length forced) (row_of rows forced)
  pub multipliers : AreMultipliers target weights rows forced f

-- the point meets the forced rows with equality, and no other row is taken
pub record IsSettledFor (target : List ℤ) (weights : List ℕ) (rows : List Row) (forced : List ℕ) (h : Held) : Type 0 where
  pub near : IsNear target weights rows forced (length rows) h
  pub parts : HasParts target weights rows h

-- a point of few coordinates with small parts, and two small parts of a multiplier for each of its rows
pub record IsSized (h : Held) : Type 0 where
  pub few : length h.far.items ≤ MOST_WINNERS
  pub long_near : length h.near.items ≡ length h.far.items
  pub long_first : length h.first.items ≡ length h.rows.items
  pub long_second : length h.second.items ≡ length h.rows.items
  pub positive : pos 0 <ℤ h.den
  pub small_den : h.den ≤ℤ pos (320 ^ 4)
  pub small_far : AreBelow (2 ^ 113) h.far.items
  pub small_near : AreBelow (2 ^ 113) h.near.items
  pub small_first : AreBelow (2 ^ 106) h.first.items
  pub small_second : AreBelow (2 ^ 106) h.second.items

-- no multiplier is below 0, and the point meets all rows
pub record Passes (rows : List Row) (h : Held) : Type 0 where
  pub signs : (i : ℕ) → i < length h.rows.items → pos 0 ≤ℤ multiplier_at h i
  pub meets : (k : ℕ) → k < length rows → (h.den *ℤ bounds rows k) ≤ℤ dot (length h.far.items) (coefficients rows k) (point_at h)

-- the point is right for all rows
pub record IsRight (target : List ℤ) (weights : List ℕ) (rows : List Row) (h : Held) : Type 0 where
  pub near : IsNear target weights rows [] 0 h
  pub parts : HasParts target weights rows h
