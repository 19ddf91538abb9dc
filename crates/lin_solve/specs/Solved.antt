-- What the answers of a linear system say.
use Rattle.std.specs.Prelude.{◌≡◌, ◌≢◌, ℕ, ◌*◌, ◌≤◌, ◌<◌, ◌^◌, ℤ, pos, ◌*ℤ◌, ◌≤ℤ◌, unsigned_abs, List, [], length, slice_index_or}
use Rattle.far_num.specs.declared.Far.{Far}
use Rattle.limits.specs.declared.TheConstants.{MOST_VALUE, MOST_WEIGHT, MOST_WEIGHTED_VALUE, MOST_WEIGHTED_WINNERS, MOST_WINNERS}
use Rattle.lin_solve.specs.declared.solved.Solved.{Solved}
use Rattle.lin_solve.specs.declared.solved.Solved.TheVariants.{One, Dependent}
use Rattle.lin_solve.specs.Matrix.{row, IsCleared}
use Rattle.lin_solve.specs.Bounds.{bound, AreSized, HasRoom, HasSizedColumns, IsWithin}
use Rattle.far_num.specs.Pairs.{far_at, near_at}
use Rattle.wide_num.specs.Sums.{dot, nth}

-- the matrix times x is d times b
abbrev pub Satisfies : List (List ℤ) → (ℕ → ℤ) → ℤ → (ℕ → ℤ) → Type 0
Satisfies m x d b = (k : ℕ) → k < length m → dot (length m) (row m k) x ≡ d *ℤ b k

-- x over d is the only solution: each solution y over e is the same fraction at each place
pub record IsOnly (m : List (List ℤ)) (x : ℕ → ℤ) (d : ℤ) (b : ℕ → ℤ) : Type 0 where
  pub solves : Satisfies m x d b
  pub only : (y : ℕ → ℤ) (e : ℤ) → Satisfies m y e b → (i : ℕ) → i < length m → d *ℤ y i ≡ e *ℤ x i

-- den is at least 1, and the far and the near parts of the values over it are the only solutions for their parts of the right side
pub record IsOneSolution (m : List (List ℤ)) (fars nears : ℕ → ℤ) (den : ℤ) (values : List Far) : Type 0 where
  pub positive : pos 1 ≤ℤ den
  pub long : length values ≡ length m
  pub far : IsOnly m (far_at values) den fars
  pub near : IsOnly m (near_at values) den nears

-- v isn't zero, and the matrix sends it to 0
pub record IsDependence (m : List (List ℤ)) (v : List ℤ) : Type 0 where
  pub long : length v ≡ length m
  pub place : ℕ
  pub below : place < length m
  pub apart : nth v place ≢ pos 0
  pub zero : IsCleared (length m) (length m) m (nth v)

-- what a result says about the matrix and the two parts of the right side
abbrev pub IsAnswer : List (List ℤ) → (ℕ → ℤ) → (ℕ → ℤ) → Solved → Type 0
IsAnswer m fars nears (One den values) = IsOneSolution m fars nears den values
IsAnswer m fars nears (Dependent combination) = IsDependence m combination

-- the denominator and the numbers of a combination are below the first bound in size, and the parts of the values below the second
abbrev pub IsSmallAnswer : ℕ → ℕ → Solved → Type 0
IsSmallAnswer top part (One den values) = (unsigned_abs den < top)
    × ((i : ℕ) → i < length values → (unsigned_abs (far_at values i) < part) × (unsigned_abs (near_at values i) < part))
IsSmallAnswer top part (Dependent combination) = (i : ℕ) → i < length combination
    → unsigned_abs (nth combination i) < top

-- entries from 0 to the top, and parts of the right side up to the edge in size
pub record IsSmallSystem (size top edge : ℕ) (m : List (List ℤ)) (right : List Far) : Type 0 where
  pub lines : length m ≤ size
  pub signs : (k i : ℕ) → k < length m → i < length m → pos 0 ≤ℤ row m k i
  pub entries : (k i : ℕ) → k < length m → i < length m → unsigned_abs (row m k i) ≤ top
  pub fars : (k : ℕ) → k < length m → unsigned_abs (far_at right k) ≤ edge
  pub nears : (k : ℕ) → k < length m → unsigned_abs (near_at right k) ≤ edge

-- the system of winners who all weigh 1
abbrev pub IsPlainSystem : List (List ℤ) → List Far → Type 0
IsPlainSystem m right = IsSmallSystem MOST_WINNERS MOST_WINNERS MOST_VALUE m right

-- the system of winners with any weights
abbrev pub IsWeightedSystem : List (List ℤ) → List Far → Type 0
IsWeightedSystem m right = IsSmallSystem MOST_WEIGHTED_WINNERS (MOST_WEIGHTED_WINNERS * MOST_WEIGHT) MOST_WEIGHTED_VALUE m right

-- y has one part of each pair
pub record AreParts (n : ℕ) (parts : ℕ → ℤ) (y : List ℤ) : Type 0 where
  pub long : length y ≡ n
  pub is : (k : ℕ) → k < n → nth y k ≡ parts k

-- the sizes of each line and column sum to at most the limit, and the right side is at most the edge in size
pub record IsWithinLimits (limit edge : ℕ) (lines : List (List ℤ)) (fars nears : List ℤ) : Type 0 where
  pub some : 1 ≤ limit
  pub sized : AreSized limit (length lines) lines
  pub columns : HasSizedColumns limit lines
  pub far_sizes : IsWithin edge (length lines) (nth fars)
  pub near_sizes : IsWithin edge (length lines) (nth nears)

-- the greatest size of a part of a value, over a denominator of at most the power of the limit
abbrev pub most : ℕ → ℕ → ℕ → ℕ
most limit edge n = limit ^ n * (n * bound limit n * edge)

-- a square system without negative entries, whose limits leave room
pub record IsSystem (lines : List (List ℤ)) (fars nears : List ℤ) : Type 0 where
  pub limit : ℕ
  pub edge : ℕ
  pub within : IsWithinLimits limit edge lines fars nears
  pub wide : (k : ℕ) → k < length lines → length (slice_index_or lines k []) ≡ length lines
  pub signs : (k i : ℕ) → k < length lines → i < length lines → pos (unsigned_abs (row lines k i)) ≡ row lines k i
  pub long_fars : length fars ≡ length lines
  pub long_nears : length nears ≡ length lines
  pub room : HasRoom limit (length lines)
  pub parts : most limit edge (length lines) < 2 ^ 119
  pub cs : limit ^ length lines * (limit * bound limit (length lines)) < 2 ^ 120
