-- Weights that are all 1.
use Rattle.std.specs.Prelude.{◌≡◌, ℕ, ◌<◌, List, slice_index_or}

-- each of these n weights is 1
abbrev pub AreOnes : ℕ → List ℕ → Type 0
AreOnes n weights = (k : ℕ) → k < n → slice_index_or weights k 0 ≡ 1
