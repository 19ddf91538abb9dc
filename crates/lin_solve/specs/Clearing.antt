-- Rows that clear all columns of a matrix but one, and the denominators that they give.
use Rattle.lin_solve.specs.Matrix.{row}
use Rattle.lin_solve.specs.Bounds.{bound, HasSizedColumns, IsWithin}
use Rattle.std.specs.Prelude.{List, length, pos, ℕ, ℤ, ◌*ℤ◌, ◌<◌, ◌≡◌, ◌≢◌, ◌≤ℤ◌, ◌≤◌}
use Rattle.wide_num.specs.Sums.{dot, nth}

-- y is column i of the lines
pub record IsColumn (lines : List (List ℤ)) (i : ℕ) (y : List ℤ) : Type 0 where
  pub long : length y ≡ length lines
  pub is : (k : ℕ) → k < length lines → nth y k ≡ row lines k i

-- y is column i of the lines, or zeros if i is the place that is left out
pub record IsKeptColumn (lines : List (List ℤ)) (left_out i : ℕ) (y : List ℤ) : Type 0 where
  pub long : length y ≡ length lines
  pub zero : i ≡ left_out → (k : ℕ) → k < length lines → nth y k ≡ pos 0
  pub is : i ≢ left_out → (k : ℕ) → k < length lines → nth y k ≡ row lines k i

-- f isn't zero, is small by each limit of the columns, and its product with each column but the one at i is 0
pub record IsClearing (lines : List (List ℤ)) (i : ℕ) (f : List ℤ) : Type 0 where
  pub long : length f ≡ length lines
  pub place : ℕ
  pub below : place < length lines
  pub apart : nth f place ≢ pos 0
  pub small : (limit : ℕ) → 1 ≤ limit → HasSizedColumns limit lines
      → IsWithin (bound limit (length lines)) (length lines) (nth f)
  pub clear : (k : ℕ) → k < length lines → k ≢ i → dot (length lines) (nth f) (λ (m : ℕ). row lines m k) ≡ pos 0

-- by some f that clears all columns but the one at i: its product with that column, and with the two parts of the right side
pub record IsPivot (lines : List (List ℤ)) (i : ℕ) (fars nears : ℕ → ℤ) (c far near : ℤ) : Type 0 where
  pub f : List ℤ
  pub clearing : IsClearing lines i f
  pub c_is : c ≡ dot (length lines) (nth f) (λ (m : ℕ). row lines m i)
  pub far_is : far ≡ dot (length lines) (nth f) fars
  pub near_is : near ≡ dot (length lines) (nth f) nears

-- d is a multiple of den over which far / c and near / c are whole, and divides each k of that kind
pub record IsGrown (den c far near d : ℤ) : Type 0 where
  pub positive : pos 1 ≤ℤ d
  pub factor : ℤ
  pub multiple : den *ℤ factor ≡ d
  pub far_part : ℤ
  pub fars : c *ℤ far_part ≡ d *ℤ far
  pub near_part : ℤ
  pub nears : c *ℤ near_part ≡ d *ℤ near
  pub least : (k m u v : ℤ) → k ≡ den *ℤ m → c *ℤ u ≡ k *ℤ far → c *ℤ v ≡ k *ℤ near → (q : ℤ) × (k ≡ d *ℤ q)

-- k is a multiple of what far / c and near / c need to be whole
abbrev pub IsWholeOver : ℤ → ℤ → ℤ → ℤ → Type 0
IsWholeOver c far near k = ((u : ℤ) × (c *ℤ u ≡ k *ℤ far)) × ((v : ℤ) × (c *ℤ v ≡ k *ℤ near))
