-- How large the numbers of an elimination can get.
use Rattle.lin_solve.specs.Matrix.{row}
use Rattle.std.specs.Prelude.{List, [], length, slice_index_or, suc, unsigned_abs, zero, ℕ, ℤ, ◌*◌, ◌+◌, ◌-◌, ◌<◌, ◌^◌, ◌≡◌, ◌≤◌}
use Rattle.wide_num.specs.Sums.{nth}

-- the sum of f over the numbers below n
abbrev pub nat_total : ℕ → (ℕ → ℕ) → ℕ
nat_total zero f = 0
nat_total (suc n) f = f zero + nat_total n (λ (i : ℕ). f (suc i))

-- the sum of the sizes of the first n numbers
abbrev pub size : ℕ → (ℕ → ℤ) → ℕ
size n a = nat_total n (λ (i : ℕ). unsigned_abs (a i))

-- the sum of the sizes of the products
abbrev pub reach : List ℤ → List ℤ → ℕ
reach a v = nat_total (length a) (λ (i : ℕ). unsigned_abs (nth a i) * unsigned_abs (nth v i))

-- each line is of n numbers whose sizes sum to at most the limit
abbrev pub AreSized : ℕ → ℕ → List (List ℤ) → Type 0
AreSized limit n lines = (k : ℕ) → k < length lines → size n (row lines k) ≤ limit

-- the sizes of each column of a square matrix sum to at most the limit
abbrev pub HasSizedColumns : ℕ → List (List ℤ) → Type 0
HasSizedColumns limit lines = (i : ℕ) → i < length lines → size (length lines) (λ (k : ℕ). row lines k i) ≤ limit

-- how large a number of a kernel row may be, if the sizes of a line sum to at most the limit
abbrev pub bound : ℕ → ℕ → ℕ
bound limit n = limit ^ (n - 1)

-- the first n numbers are at most h in size
abbrev pub IsWithin : ℕ → ℕ → (ℕ → ℤ) → Type 0
IsWithin h n v = (i : ℕ) → i < n → unsigned_abs (v i) ≤ h

-- the combination of two kernel rows stays in the range
abbrev pub HasRoom : ℕ → ℕ → Type 0
HasRoom limit n = 2 * (limit * (bound limit n * bound limit n)) < 2 ^ 120

-- lines of a square matrix, whose columns keep some limit that leaves room
pub record IsBounded (lines : List (List ℤ)) : Type 0 where
  pub limit : ℕ
  pub some : 1 ≤ limit
  pub room : HasRoom limit (length lines)
  pub wide : (k : ℕ) → k < length lines → length (slice_index_or lines k []) ≡ length lines
  pub columns : HasSizedColumns limit lines

-- lines of n numbers, which keep some limit that leaves room
pub record AreLines (n : ℕ) (lines : List (List ℤ)) : Type 0 where
  pub limit : ℕ
  pub some : 1 ≤ limit
  pub room : HasRoom limit n
  pub long : (k : ℕ) → k < length lines → length (slice_index_or lines k []) ≡ n
  pub sized : AreSized limit n lines
