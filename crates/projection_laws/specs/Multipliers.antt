-- The two families of multipliers of a point n over d: one number of each family for each row.
use Rattle.std.specs.Prelude.{pos, ℕ, ℤ, ◌*ℤ◌, ◌-ℤ◌, ◌<◌, ◌<ℤ◌, ◌≡◌, ◌≢◌, ◌≤ℤ◌, ◌⊎◌}
use Rattle.projection_laws.specs.Points.{MeetsExactly}
use Rattle.wide_num.specs.Sums.{dot}

-- The first multipliers: none is negative, and each row with one other than 0 is tight.
pub record AreFirst (m r : ℕ) (a : ℕ → ℕ → ℤ) (bound : ℕ → ℤ) (d : ℤ) (n first : ℕ → ℤ) : Type 0 where
  pub positive : pos 0 <ℤ d
  pub not_negative : (i : ℕ) → i < r → pos 0 ≤ℤ first i
  pub tight : (i : ℕ) → i < r → first i ≢ pos 0 → MeetsExactly m (a i) (bound i) d n

-- the sum of the numbers of all rows at coordinate j
abbrev pub sum_at : ℕ → (ℕ → ℕ → ℤ) → (ℕ → ℤ) → ℕ → ℤ
sum_at r a numbers j = dot r numbers (λ i. a i j)

-- at each coordinate the sum of the first multipliers is d
abbrev pub SumsTo : ℕ → ℕ → (ℕ → ℕ → ℤ) → ℤ → (ℕ → ℤ) → Type 0
SumsTo m r a d first = (j : ℕ) → j < m → sum_at r a first j ≡ d

-- at each coordinate the sum of the first multipliers is d, or the point x over e is the same there
abbrev pub SumsToOrStands : ℕ → ℕ → (ℕ → ℕ → ℤ) → ℤ → (ℕ → ℤ) → (ℕ → ℤ) → ℤ → (ℕ → ℤ) → Type 0
SumsToOrStands m r a d n first e x = (j : ℕ) → j < m → (sum_at r a first j ≡ d) ⊎ (d *ℤ x j ≡ e *ℤ n j)

-- The second multipliers: none is negative if the first is 0, each row with one other than 0 is tight, and at each
-- coordinate they come, times the weight, to what the point is off the target.
pub record AreSecond (m r : ℕ) (a : ℕ → ℕ → ℤ) (bound : ℕ → ℤ) (d : ℤ) (n first second target weight : ℕ → ℤ) : Type 0 where
  pub sign : (i : ℕ) → i < r → first i ≡ pos 0 → pos 0 ≤ℤ second i
  pub tight : (i : ℕ) → i < r → second i ≢ pos 0 → MeetsExactly m (a i) (bound i) d n
  pub sums : (j : ℕ) → j < m → weight j *ℤ sum_at r a second j ≡ n j -ℤ d *ℤ target j

-- a multiple l of each weight, and how often it holds it
pub record AreShares (m : ℕ) (l : ℤ) (share weight : ℕ → ℤ) : Type 0 where
  pub not_negative : pos 0 ≤ℤ l
  pub positive : (j : ℕ) → j < m → pos 0 <ℤ share j
  pub whole : (j : ℕ) → j < m → share j *ℤ weight j ≡ l
