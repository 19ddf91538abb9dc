-- The certificate has the point of the last turn.
use Rattle.std.specs.Prelude.{◌≡◌, ℕ, List, [], ◌∷◌, ◌++◌, ℤ, refl}
use Rattle.std.proofs.Common.{subst, sym}
use Rattle.cert_grammar.specs.Certificate.{CertValue}
use Rattle.cert_soundness.specs.Sound.{cert_point}
use Rattle.core_price.specs.Turns.{EndsWith, last_turn, point_of, turns_of}
use Rattle.core_price.specs.declared.priced.Turn.{Turn}
use Rattle.core_laws.specs.Turns.{IsLastPoint}

last-of : (z : List ℕ) (den : ℤ) (at : List ℤ) (past : List Turn) → IsLastPoint (turns_of z (past ++ last_turn den at ∷ [])) (point_of z den at)
last-of z den at [] = refl
last-of z den at (t ∷ []) = refl
last-of z den at (t ∷ u ∷ past) = last-of z den at (u ∷ past)

last-point : (z : List ℕ) (den : ℤ) (at : List ℤ) (turns : List Turn) → EndsWith turns (last_turn den at) → IsLastPoint (turns_of z turns) (point_of z den at)
last-point z den at turns ends = subst (λ (t : List Turn). IsLastPoint (turns_of z t) (point_of z den at)) (sym ends.1) (last-of z den at ends.0)

-- a certificate that has the point at which pricing ended has the point of the last turn
pub point-is_last : (z : List ℕ) (den : ℤ) (at : List ℤ) (turns : List Turn) (made cert : CertValue) → EndsWith turns (last_turn den at)
    → cert_point cert ≡ point_of z den at → cert.choice ≡ z → made ≡ cert → IsLastPoint (turns_of made.choice turns) (cert_point made)
point-is_last z den at turns made cert ends point choice is = rw (is, choice, point) (last-point z den at turns ends)
