-- Lines in 64 bits.
use Rattle.std.specs.Prelude.{◌≡◌, ℕ, ◌^◌, ◌≤◌, List, ℤ, pos, slice_index_or, unsigned_abs}

-- no number is so large that a sum of four leaves 64 bits
abbrev pub IsSmall : List ℤ → Type 0
IsSmall line = (s : ℕ) → unsigned_abs (slice_index_or line s (pos 0)) ≤ 2 ^ 60

-- both lines are those numbers, and none of them is large
pub record AreNarrow (numbers rests line below : List ℤ) : Type 0 where
  pub same : line ≡ numbers
  pub same_below : below ≡ rests
  pub small : IsSmall numbers
  pub small_below : IsSmall rests
