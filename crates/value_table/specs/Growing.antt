-- Lines that never fall.
use Rattle.std.specs.Prelude.{ℕ, ◌<◌, IsTrue, List, slice_index_or, ℤ, pos, ◌≤ℤ◌}
use Rattle.auction_model.specs.Package.{is_within}
use Rattle.auction_model.specs.Place.{left_at, states_of}

-- where more is left of each category, the line has at least as much
abbrev pub Grows : List ℕ → List ℤ → Type 0
Grows supply line = (s t : ℕ) → s < states_of supply → t < states_of supply
    → IsTrue (is_within (left_at supply s) (left_at supply t))
    → slice_index_or line s (pos 0) ≤ℤ slice_index_or line t (pos 0)

-- neither line falls
pub record BothGrow (supply : List ℕ) (line below : List ℤ) : Type 0 where
  pub line_grows : Grows supply line
  pub below_grows : Grows supply below
