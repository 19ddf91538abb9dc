-- A placement certificate has one verdict.
use Rattle.std.specs.Prelude.{◌≡◌, ℕ}
use Rattle.std.proofs.Common.{inl, inr, sym}
use Rattle.std.proofs.lemmas.Bool.{cases_order}
use Rattle.slot_places.specs.Slots.{SlotList}
use Rattle.cert_grammar.specs.PlaceCert.{PlaceCertValue}
use Rattle.placement_check.specs.PlaceTests.{Asks, PlacementHolds, FailsFirst}

all_asked : (slots : SlotList) (p : PlaceCertValue) → PlacementHolds slots p → (t place : ℕ) → Asks slots p t place
all_asked slots p h t place = (
  λ e. h.p1 place,
  λ e. h.p2 place,
  λ e. h.p3 place,
  λ e. h.p4 place,
  λ e. h.p5 place,
  λ e. h.p6 place,
  λ e. h.p7 place,
  λ e. h.p8 place,
  λ e. h.p9 place,
)

-- no certificate passes all tests and fails one first
pub not_both : (slots : SlotList) (p : PlaceCertValue) (t place : ℕ) → PlacementHolds slots p → FailsFirst slots p t place → ⊥
not_both slots p t place h f = f.fails (all_asked slots p h t place)

-- there is one first failure, at one place of one test
pub one_verdict : (slots : SlotList) (p : PlaceCertValue) (t place u q : ℕ) → FailsFirst slots p t place → FailsFirst slots p u q → (t ≡ u) × (place ≡ q)
one_verdict slots p t place u q f g =
    elim (cases_order t u) [
      | inl same ↦ elim (cases_order place q) [
        | inl places ↦ (same, places)
        | inr apart ↦ elim apart [
          | inl less ↦ absurd (f.fails (g.before t place (inr (same, less))))
          | inr more ↦ absurd (g.fails (f.before u q (inr (sym same, more))))
        ]
      ]
      | inr apart ↦ elim apart [
        | inl less ↦ absurd (f.fails (g.before t place (inl less)))
        | inr more ↦ absurd (g.fails (f.before u q (inl more)))
      ]
    ]
