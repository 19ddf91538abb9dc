-- The elimination: a row for each free coordinate, cleared line by line.
use Rattle.lin_solve.specs.Matrix.{row, IsCleared}
use Rattle.lin_solve.specs.Bounds.{size, bound, AreSized, IsWithin, HasRoom}
use Rattle.std.specs.Prelude.{Bool, List, [], false, length, pos, slice_index_or, true, ℕ, ℤ, ◌*ℤ◌, ◌-ℤ◌, ◌<◌, ◌≡◌, ◌≢◌, ◌≤◌}
use Rattle.wide_num.specs.Sums.{dot, nth}

-- the sum of the products of two rows
abbrev pub product : List ℤ → List ℤ → ℤ
product a v = dot (length a) (nth a) (nth v)

-- some combination of the first n numbers of v is 1, so that no number but 1 and -1 divides them all
abbrev pub IsPrimitive : ℕ → (ℕ → ℤ) → Type 0
IsPrimitive n v = (e : ℕ → ℤ) × (dot n e v ≡ pos 1)

-- a line and two rows of as many numbers, which keep some limit that leaves room to combine the rows
pub record CanCombine (line v w : List ℤ) : Type 0 where
  pub limit : ℕ
  pub some : 1 ≤ limit
  pub sized : size (length line) (nth line) ≤ limit
  pub left : IsWithin (bound limit (length line)) (length line) (nth v)
  pub right : IsWithin (bound limit (length line)) (length line) (nth w)
  pub room : HasRoom limit (length line)

-- y is s times v less t times w
pub record IsMix (s t : ℤ) (v w y : List ℤ) : Type 0 where
  pub long : length y ≡ length v
  pub is : (i : ℕ) → i < length v → nth y i ≡ s *ℤ nth v i -ℤ t *ℤ nth w i

-- g times y is s times v less t times w, and y is primitive
pub record Reduces (s t : ℤ) (v w y : List ℤ) : Type 0 where
  pub long : length y ≡ length v
  pub g : ℤ
  pub apart : g ≢ pos 0
  pub is : (i : ℕ) → i < length v → g *ℤ nth y i ≡ s *ℤ nth v i -ℤ t *ℤ nth w i
  pub primitive : IsPrimitive (length v) (nth y)

-- g times y is v
pub record AreQuotients (g : ℤ) (v y : List ℤ) : Type 0 where
  pub long : length y ≡ length v
  pub is : (i : ℕ) → i < length v → g *ℤ nth y i ≡ nth v i

-- some g times y is v, and y is primitive
pub record IsPrimitivePart (v y : List ℤ) : Type 0 where
  pub long : length y ≡ length v
  pub g : ℤ
  pub apart : g ≢ pos 0
  pub is : (i : ℕ) → i < length v → g *ℤ nth y i ≡ nth v i
  pub primitive : IsPrimitive (length v) (nth y)

-- g divides each of the first n numbers and is a combination of them
pub record ContentOf (n : ℕ) (v : ℕ → ℤ) (g : ℤ) : Type 0 where
  pub e : ℕ → ℤ
  pub sum_is : dot n e v ≡ g
  pub part : ℕ → ℤ
  pub parts : (i : ℕ) → i < n → g *ℤ part i ≡ v i

-- whether a coordinate is free
abbrev pub flag : List Bool → ℕ → Bool
flag free j = slice_index_or free j false

-- the rows of the free coordinates, ready for a line: each is small, and of all free coordinates it is nonzero only at its
-- own
pub record Ready (line : List ℤ) (basis : List (List ℤ)) (free : List Bool) : Type 0 where
  pub limit : ℕ
  pub long_line : length line ≡ length free
  pub long_basis : length basis ≡ length free
  pub some : 1 ≤ limit
  pub sized : size (length line) (nth line) ≤ limit
  pub room : HasRoom limit (length line)
  pub lengths : (j : ℕ) → j < length free → flag free j ≡ true → length (slice_index_or basis j []) ≡ length free
  pub small : (j : ℕ) → j < length free → flag free j ≡ true
      → IsWithin (bound limit (length line)) (length line) (row basis j)
  pub own : (j : ℕ) → j < length free → flag free j ≡ true → row basis j j ≢ pos 0
  pub others : (j l : ℕ) → j < length free → l < length free → flag free j ≡ true → flag free l ≡ true → l ≢ j
      → row basis j l ≡ pos 0

-- the row of j after the line is cleared at the pivot
abbrev pub IsNext : List ℤ → List (List ℤ) → ℕ → ℕ → List ℤ → Type 0
IsNext line basis p j y = Reduces (product line (slice_index_or basis p [])) (product line (slice_index_or basis j [])) (slice_index_or basis j []) (slice_index_or basis p []) y

-- p is free, and the line doesn't send its row to 0
abbrev pub CanClear : List ℤ → List (List ℤ) → List Bool → ℕ → Type 0
CanClear line basis free p = (p < length free) × (flag free p ≡ true)
    × (product line (slice_index_or basis p []) ≢ pos 0)

-- the line sends the rows of all free coordinates to 0
abbrev pub NoneCanClear : List ℤ → List (List ℤ) → List Bool → Type 0
NoneCanClear line basis free = (j : ℕ) → j < length free → flag free j ≡ true
    → product line (slice_index_or basis j []) ≡ pos 0

-- v is 1 at j and 0 elsewhere
pub record IsUnit (n j : ℕ) (v : List ℤ) : Type 0 where
  pub long : length v ≡ n
  pub one : j < n → nth v j ≡ pos 1
  pub none : (i : ℕ) → i < n → i ≢ j → nth v i ≡ pos 0

-- v isn't zero, is small by each limit of the lines and is sent to 0 by all lines
pub record IsKernelRow (n : ℕ) (lines : List (List ℤ)) (v : List ℤ) : Type 0 where
  pub long : length v ≡ n
  pub place : ℕ
  pub below : place < n
  pub apart : nth v place ≢ pos 0
  pub small : (limit : ℕ) → 1 ≤ limit → AreSized limit n lines → IsWithin (bound limit n) n (nth v)
  pub cleared : IsCleared n (length lines) lines (nth v)
