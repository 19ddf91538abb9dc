-- A text whose lines follow the plan, and none of which is out of range, states a certificate.
use Rattle.std.proofs.Common.{◌≡◌, ℕ, Bool, true, false, List, [], ◌∷◌, refl, sym, subst}
use Rattle.std.specs.Prelude.{Some, None, if◌then◌else◌}
use Rattle.std.specs.Option.{option_or}
use Rattle.line_format.specs.LineText.{IsTextOf, first_excess, stated}
use Rattle.cert_grammar.specs.Certificate.{CertValue}
use Rattle.cert_grammar.specs.Plan.{next_place, placed}
use Rattle.cert_grammar.specs.Lines.{IsCertText, Line, lines, over, spell}
use Rattle.cert_grammar.specs.Says.{CertSays}
use Rattle.cert_stream.specs.Standing.{AllIn}
use Rattle.cert_stream.proofs.CertOf.{cert_of}

-- lines of which none exceeds the range
pub none_out : (place : ℕ) (items : List Line) → first_excess (placed spell over place items) ≡ None → AllIn items
none_out place [] none = tt
none_out place (i ∷ items) none = first (over i) refl none (λ rest. none_out (next_place spell over place i) items rest)
  where
    not_none : (p : ℕ) → Some p ≡ None → ⊥
    not_none p e = cc

    first : (b : Bool) → over i ≡ b → first_excess (placed spell over place (i ∷ items)) ≡ None
        → (first_excess (placed spell over (next_place spell over place i) items) ≡ None → AllIn items) → AllIn (i ∷ items)
    first true is none more = absurd (not_none place (subst (λ (x : Bool). option_or (if x then Some place else None)
        (first_excess (placed spell over (next_place spell over place i) items)) ≡ None) is none))
    first false is none more = (
      is,
      more (subst (λ (x : Bool). option_or (if x then Some place else None)
          (first_excess (placed spell over (next_place spell over place i) items)) ≡ None) is none),
    )

-- a text of lines in range states a certificate
pub states_one : (b s : ℕ) (text : List ℕ) (items : List Line) → IsTextOf (IsCertText b s) lines text items → (c : CertValue) × CertSays b s text (stated c)
states_one b s text items is =
    let c = cert_of b s items is.valid (none_out 0 items is.within) in
    (c.cert, (c.kept, subst (λ (l : List Line). IsTextOf (IsCertText b s) lines text l) (sym c.whole) is))
