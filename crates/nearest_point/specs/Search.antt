-- What the search for the nearest point knows of a point and its multipliers.
use Rattle.nearest_point.specs.Numbers.{place}
use Rattle.std.specs.Prelude.{List, length, pos, ℕ, ℤ, ◌*ℤ◌, ◌+ℤ◌, ◌-ℤ◌, ◌<ℤ◌, ◌<◌, ◌≡◌, ◌≤ℤ◌, ◌≤◌}
use Rattle.wide_num.specs.Sums.{dot, total}

-- point = den * target + weight * (the sum of the multipliers of the rows that contain the coordinate)
pub record Solved (m r : ℕ) (a : ℕ → ℕ → ℤ) (den : ℤ) (point mult target weight : ℕ → ℤ) : Type 0 where
  pub positive : pos 0 <ℤ den
  pub at : (j : ℕ) → j < m → point j ≡ den *ℤ target j +ℤ weight j *ℤ total r (λ i. mult i *ℤ a i j)

-- the rows of a point: `forced` of them were forced before, and the others were taken
pub record Taken (m r forced : ℕ) (a : ℕ → ℕ → ℤ) (bound : ℕ → ℤ) (den : ℤ) (point mult : ℕ → ℤ) : Type 0 where
  pub tight : (i : ℕ) → i < r → dot m (a i) point ≡ den *ℤ bound i
  pub sign : (i : ℕ) → forced ≤ i → i < r → pos 0 ≤ℤ mult i

-- only the zero combination of n rows is 0 in each of m coordinates
pub record Independent (m n : ℕ) (a : ℕ → ℕ → ℤ) : Type 0 where
  pub only_zero : (c : ℕ → ℤ) → ((j : ℕ) → j < m → total n (λ i. c i *ℤ a i j) ≡ pos 0) → (i : ℕ) → i < n → c i ≡ pos 0

-- rows with coefficients a and bounds b. The point, with its own list of rows, is right for `forced` with equality and the rows from `from` on
pub record Near (m r : ℕ) (a : ℕ → ℕ → ℤ) (b target weight : ℕ → ℤ) (forced : List ℕ) (from : ℕ) (rows : List ℕ) (den : ℤ) (point mult : ℕ → ℤ) : Type 0 where
  pub longer : length forced ≤ length rows
  pub starts : (i : ℕ) → i < length forced → place rows i ≡ place forced i
  pub above : (i : ℕ) → length forced ≤ i → i < length rows → (from ≤ place rows i) × (place rows i < r)
  pub solved : Solved m (length rows) (λ i. a (place rows i)) den point mult target weight
  pub taken : Taken m (length rows) (length forced) (λ i. a (place rows i)) (λ i. b (place rows i)) den point mult
  pub meets : (k : ℕ) → from ≤ k → k < r → (den *ℤ b k) ≤ℤ dot m (a k) point
  pub independent : Independent m (length rows) (λ i. a (place rows i))

-- what the search is owed: the forced rows are independent, and some point x over e meets them with equality and the rows from `from` on
pub record Owed (m r : ℕ) (a : ℕ → ℕ → ℤ) (b : ℕ → ℤ) (forced : List ℕ) (from : ℕ) (e : ℤ) (x : ℕ → ℤ) : Type 0 where
  pub positive : pos 0 <ℤ e
  pub tight : (i : ℕ) → i < length forced → dot m (a (place forced i)) x ≡ e *ℤ b (place forced i)
  pub meets : (k : ℕ) → from ≤ k → k < r → (e *ℤ b k) ≤ℤ dot m (a k) x
  pub independent : Independent m (length forced) (λ i. a (place forced i))

-- the found point and multipliers part by part: far parts are solved for the target -weight and bounds 0, near parts for the target itself
pub record ByParts (m : ℕ) (a : ℕ → ℕ → ℤ) (b target weight : ℕ → ℤ) (rows : List ℕ) (den : ℤ) (pf pn lf ln : ℕ → ℤ) : Type 0 where
  pub far : Solved m (length rows) (λ i. a (place rows i)) den pf lf (λ j. pos 0 -ℤ weight j) weight
  pub near : Solved m (length rows) (λ i. a (place rows i)) den pn ln target weight
  pub tight_far : (i : ℕ) → i < length rows → dot m (a (place rows i)) pf ≡ pos 0
  pub tight_near : (i : ℕ) → i < length rows → dot m (a (place rows i)) pn ≡ den *ℤ b (place rows i)

-- the matrix of n rows with weights: what the common coordinates of rows i and k weigh
abbrev pub gram : ℕ → (ℕ → ℕ → ℤ) → (ℕ → ℤ) → ℕ → ℕ → ℤ
gram m a weight i k = total m (λ j. a i j *ℤ (weight j *ℤ a k j))
