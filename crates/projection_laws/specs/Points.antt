-- Points over a denominator, rows that ask for a sum, and the point of least sum that is nearest to a target. There are m
-- coordinates and r rows; row i has the coefficients `a i` and the number `bound i`.
use Rattle.std.specs.Prelude.{pos, ℕ, ℤ, ◌*ℤ◌, ◌-ℤ◌, ◌<◌, ◌<ℤ◌, ◌≡◌, ◌≤ℤ◌}
use Rattle.wide_num.specs.Sums.{dot, total}

-- the point x over e has at least the bound over each row
pub record MeetsRows (m r : ℕ) (a : ℕ → ℕ → ℤ) (bound : ℕ → ℤ) (e : ℤ) (x : ℕ → ℤ) : Type 0 where
  pub positive : pos 0 <ℤ e
  pub above : (i : ℕ) → i < r → (e *ℤ bound i) ≤ℤ dot m (a i) x

-- the point x over e has just the bound over a row
abbrev pub MeetsExactly : ℕ → (ℕ → ℤ) → ℤ → ℤ → (ℕ → ℤ) → Type 0
MeetsExactly m a bound e x = dot m a x ≡ e *ℤ bound

-- the fractions of n over d and x over e are equal
abbrev pub SameNumbers : ℕ → ℤ → (ℕ → ℤ) → ℤ → (ℕ → ℤ) → Type 0
SameNumbers m d n e x = (j : ℕ) → j < m → d *ℤ x j ≡ e *ℤ n j

-- of these points none has a smaller sum than n over d
abbrev pub HasLeastSum : ℕ → (ℤ → (ℕ → ℤ) → Type 0) → ℤ → (ℕ → ℤ) → Type 0
HasLeastSum m Among d n = (e : ℤ) (x : ℕ → ℤ) → Among e x → (e *ℤ total m n) ≤ℤ (d *ℤ total m x)

-- the squares of what x over e is off the target, each counted as often as the share of its coordinate says, times the square of e
abbrev pub square_distance_to : ℕ → (ℕ → ℤ) → (ℕ → ℤ) → ℤ → (ℕ → ℤ) → ℤ
square_distance_to m share target e x = total m (λ j. share j *ℤ ((x j -ℤ e *ℤ target j) *ℤ (x j -ℤ e *ℤ target j)))

-- of these points every other one of the same sum is farther from the target than n over d
abbrev pub IsNearestTo : ℕ → (ℕ → ℤ) → (ℕ → ℤ) → (ℤ → (ℕ → ℤ) → Type 0) → ℤ → (ℕ → ℤ) → Type 0
IsNearestTo m share target Among d n =
    (e : ℤ) (x : ℕ → ℤ) → Among e x → d *ℤ total m x ≡ e *ℤ total m n → (SameNumbers m d n e x → ⊥)
    → (e *ℤ e *ℤ square_distance_to m share target d n) <ℤ (d *ℤ d *ℤ square_distance_to m share target e x)
