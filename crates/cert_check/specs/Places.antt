-- The first place where a test fails.
use Rattle.std.specs.Prelude.{ℕ, ◌<◌, Option, Some, None}

-- None if it is true at all places, else the first place where it fails
abbrev pub IsFirstFailing : (ℕ → Type 0) → Option ℕ → Type 0
IsFirstFailing P None = (place : ℕ) → P place
IsFirstFailing P (Some p) = (P p → ⊥) × ((place : ℕ) → place < p → P place)
