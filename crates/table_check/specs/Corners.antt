-- The rule of a bid in a block, and lines that never fall.
use Rattle.std.specs.Prelude.{◌≡◌, ℕ, ◌-◌, ◌<◌, Bool, true, IsTrue, List, ℤ, ◌+ℤ◌, ◌≤ℤ◌}
use Rattle.auction_model.specs.Package.{is_within}
use Rattle.auction_model.specs.Place.{left_at, place_of, states_of}
use Rattle.wide_num.specs.Sums.{nth}
use Rattle.table_check.specs.Growth.{Grows}

-- at each place of a block where the package fits, the line is at least the worth and what the line below has for the rest
abbrev pub KeepsBlock : List ℕ → List ℕ → List ℤ → List ℤ → ℤ → Type 0
KeepsBlock supply lots line below worth = (n : ℕ) → n < states_of supply → IsTrue (is_within lots (left_at supply n))
    → (worth +ℤ nth below (n - place_of supply lots)) ≤ℤ nth line n

-- both lines never fall if this says so
pub record BothGrow (supply : List ℕ) (grow : Bool) (line below : List ℤ) : Type 0 where
  pub line_grows : grow ≡ true → Grows supply line
  pub below_grows : grow ≡ true → Grows supply below
