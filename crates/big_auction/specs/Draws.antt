-- The generator: a linear congruence of period 2^31, of whose states the upper bits are drawn.
use Rattle.std.specs.Prelude.{ℕ, zero, suc, ◌+◌, ◌*◌, ◌/◌, ◌%◌, ◌^◌, List, [], ◌∷◌}

-- the first state of a number's draws
abbrev pub first_state : ℕ → ℕ
first_state number = number % 2 ^ 31

-- the next state
unfoldable pub turned : ℕ → ℕ
turned state = (1103515245 * state + 12345) % 2 ^ 31

-- the state that many draws after this one
unfoldable pub advanced : ℕ → ℕ → ℕ
advanced state zero = state
advanced state (suc n) = turned (advanced state n)

-- what the n-th draw from a state on gives, below the bound; draws are numbered from 1
unfoldable pub drawn : ℕ → ℕ → ℕ → ℕ
drawn state n bound = advanced state n / 2 ^ 16 % bound

-- the n-th draw and those after it, one for each count, which is the most that may be drawn
abbrev pub drawn_counts : ℕ → ℕ → List ℕ → List ℕ
drawn_counts state n [] = []
drawn_counts state n (most ∷ counts) = drawn state n (suc most) ∷ drawn_counts state (suc n) counts

-- the package of the first draws from a state on: within this one, with a lot of the first category at least
abbrev pub drawn_package : ℕ → List ℕ → List ℕ
drawn_package state [] = []
drawn_package state (most ∷ counts) = suc (drawn state 1 most) ∷ drawn_counts state 2 counts
