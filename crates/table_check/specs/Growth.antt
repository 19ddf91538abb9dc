-- Lines that never fall.
use Rattle.std.specs.Prelude.{ℕ, ◌+◌, ◌<◌, IsTrue, List, length, ℤ, ◌≤ℤ◌}
use Rattle.auction_model.specs.Package.{is_within}
use Rattle.auction_model.specs.Place.{left_at, states_of}
use Rattle.wide_num.specs.Sums.{nth}

-- where more is left of each category, the line has at least as much
abbrev pub Grows : List ℕ → List ℤ → Type 0
Grows supply line = (s t : ℕ) → s < states_of supply → t < states_of supply
    → IsTrue (is_within (left_at supply s) (left_at supply t)) → nth line s ≤ℤ nth line t

-- no number is below the one that many places before it
abbrev pub RisesBy : ℕ → List ℤ → Type 0
RisesBy width line = (s : ℕ) → s + width < length line → nth line s ≤ℤ nth line (s + width)
