-- The turns that can be printed, and texts that grow.
use Rattle.std.specs.Prelude.{◌≡◌, ℕ, List, [], ◌∷◌, ◌++◌, IfSome, ℤ, pos, ◌≤ℤ◌}
use Rattle.core_price.specs.declared.priced.Turn.{Turn}
use Rattle.print_grammar.specs.Fractions.{IsFractionText}
use Rattle.outcome.specs.Payments.{ArePayments}

-- its point is payments of the winners, and its excess isn't below 0
pub record CanPrintTurn (z : List ℕ) (t : Turn) : Type 0 where
  pub payments : ArePayments z t.den t.at
  pub excess : IfSome t.block (λ b. pos 0 ≤ℤ b.excess)

-- a text grows by one of this kind
abbrev pub Grows : List ℕ → List ℕ → (List ℕ → Type 0) → Type 0
Grows old new Is = (added : List ℕ) × Is added × (new ≡ old ++ added)

-- fractions over one denominator, each after one space
abbrev pub AreFractions : ℤ → List ℤ → List ℕ → Type 0
AreFractions den [] text = text ≡ []
AreFractions den (n ∷ ns) text = (price rest : List ℕ) × IsFractionText n den price × AreFractions den ns rest
    × (text ≡ 32 ∷ price ++ rest)
