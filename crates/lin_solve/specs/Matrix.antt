-- Square matrices, and what they send to 0.
use Rattle.limits.specs.declared.TheConstants.{MOST_WINNERS}
use Rattle.std.specs.Prelude.{List, [], length, pos, slice_index_or, ℕ, ℤ, ◌<◌, ◌≡◌, ◌≤◌}
use Rattle.wide_num.specs.Sums.{dot, nth}

-- the number at place i of row j, and 0 past the end
abbrev pub row : List (List ℤ) → ℕ → ℕ → ℤ
row vs j i = nth (slice_index_or vs j []) i

-- 1 to MOST_WINNERS lines, each with as many numbers
pub record IsSquare (m : List (List ℤ)) : Type 0 where
  pub some : 1 ≤ length m
  pub few : length m ≤ MOST_WINNERS
  pub wide : (k : ℕ) → k < length m → length (slice_index_or m k []) ≡ length m

-- z is sent to 0 by the first k lines
abbrev pub IsCleared : ℕ → ℕ → List (List ℤ) → (ℕ → ℤ) → Type 0
IsCleared n k lines z = (i : ℕ) → i < k → dot n (row lines i) z ≡ pos 0

-- the lines send only 0 to 0
abbrev pub OnlyZero : ℕ → List (List ℤ) → Type 0
OnlyZero n lines = (z : ℕ → ℤ) → IsCleared n (length lines) lines z → (i : ℕ) → i < n → z i ≡ pos 0
