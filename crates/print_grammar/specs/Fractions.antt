-- How a fraction is printed: its whole part, and a rest over its least denominator.
use Rattle.std.specs.Prelude.{◌≡◌, ℕ, zero, suc, ◌+◌, ◌*◌, ◌<◌, List, ◌∷◌, ◌++◌, ℤ, pos, ◌*ℤ◌}
use Rattle.std.specs.Fmt.{decimal}

-- n over d is `whole` and `rest` over `parts`, in lowest terms
pub record IsFraction (n d : ℤ) (whole rest parts : ℕ) : Type 0 where
  pub value : n *ℤ pos parts ≡ d *ℤ pos (whole * parts + rest)
  pub proper : rest < parts
  pub lowest : (g a b : ℕ) → rest ≡ g * a → parts ≡ g * b → g ≡ 1

-- `W`, or `W+R/D`
abbrev pub parts_text : ℕ → ℕ → ℕ → List ℕ
parts_text whole zero parts = decimal whole
parts_text whole (suc rest) parts = decimal whole ++ 43 ∷ decimal (suc rest) ++ 47 ∷ decimal parts

-- the text of n over d
abbrev pub IsFractionText : ℤ → ℤ → List ℕ → Type 0
IsFractionText n d text = (whole rest parts : ℕ) × IsFraction n d whole rest parts
    × (text ≡ parts_text whole rest parts)
