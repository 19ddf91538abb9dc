-- A package is the list of its counts, one for each category. Past the end of a list each count is 0.
use Rattle.std.specs.Prelude.{◌≡◌, ◌⊎◌, ℕ, ◌+◌, ◌-◌, ◌*◌, ◌≤◌, ◌<◌, Bool, true, ◌&&◌, nat_le, ◌==◌, List, [], ◌∷◌, slice_index_or}

-- the counts of both, category by category
abbrev pub together : List ℕ → List ℕ → List ℕ
together [] q = q
together (a ∷ p) [] = a ∷ p
together (a ∷ p) (b ∷ q) = (a + b) ∷ together p q

-- no count of the package is above the count of the supply
abbrev pub is_within : List ℕ → List ℕ → Bool
is_within [] s = true
is_within (a ∷ p) [] = (a == 0) && is_within p []
is_within (a ∷ p) (b ∷ s) = nat_le a b && is_within p s

-- what the package leaves of the supply
abbrev pub less : List ℕ → List ℕ → List ℕ
less [] p = []
less (b ∷ s) [] = b ∷ s
less (b ∷ s) (a ∷ p) = (b - a) ∷ less s p

-- the price of a package
abbrev pub cost_of : List ℕ → List ℕ → ℕ
cost_of [] p = 0
cost_of (r ∷ prices) [] = 0
cost_of (r ∷ prices) (a ∷ p) = r * a + cost_of prices p

-- the order of packages: at the first category where they differ, the count of p is smaller
abbrev pub ComesBefore : List ℕ → List ℕ → Type 0
ComesBefore [] q = ⊥
ComesBefore (a ∷ p) [] = ⊥
ComesBefore (a ∷ p) (b ∷ q) = (a < b) ⊎ ((a ≡ b) × ComesBefore p q)

-- from category n on (counted from 0) the package has nothing
abbrev pub IsNothingFrom : ℕ → List ℕ → Type 0
IsNothingFrom n p = (k : ℕ) → n ≤ k → slice_index_or p k 0 ≡ 0
