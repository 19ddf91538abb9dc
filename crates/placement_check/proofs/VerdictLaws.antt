-- The tests in their order, and the verdict.
use Rattle.std.specs.Prelude.{◌≡◌, ℕ, ◌+◌, ◌<◌, Some, None, refl}
use Rattle.std.proofs.Common.{inl, inr, sym, subst, arith}
use Rattle.std.proofs.lemmas.Bool.{cases_lt}
use Rattle.cert_check.specs.Places.{IsFirstFailing}
use Rattle.slot_places.specs.Slots.{SlotList}
use Rattle.cert_grammar.specs.PlaceCert.{PlaceCertValue}
use Rattle.placement_check.specs.PlaceTests.{Asks, PlacementHolds, FailsFirst, P1, P2, P3, P5}
use Rattle.placement_check.specs.Verdicts.{HoldsUpTo}

module _ (slots : SlotList) (p : PlaceCertValue) (t : ℕ) (before : HoldsUpTo slots p t) where
  -- after test 1, P1 holds at all places
  pub held-P1 : 1 < t → (place : ℕ) → P1 p place
  held-P1 lt place = (before 1 place lt).0 refl

  -- after test 2, P2 holds at all places
  pub held-P2 : 2 < t → (place : ℕ) → P2 slots p place
  held-P2 lt place = (before 2 place lt).1 refl

  -- after test 3, P3 holds at all places
  pub held-P3 : 3 < t → (place : ℕ) → P3 slots p place
  held-P3 lt place = (before 3 place lt).2 refl

  -- after test 5, P5 holds at all places
  pub held-P5 : 5 < t → (place : ℕ) → P5 slots p place
  held-P5 lt place = (before 5 place lt).4 refl

  -- if a test fails nowhere, all tests up to it hold
  pub held-next : IsFirstFailing (Asks slots p t) None → HoldsUpTo slots p (t + 1)
  held-next all u place lt =
      elim (cases_lt u t) [
        | inl less ↦ before u place less
        | inr past ↦ (let same : t ≡ u = omega arith in subst (λ (x : ℕ). Asks slots p x place) same (all place))
      ]

  -- if a test fails first at a place, and all tests before it hold, that is the first failure
  pub fails-first : (place : ℕ) → IsFirstFailing (Asks slots p t) (Some place) → FailsFirst slots p t place
  fails-first place first = record {
    fails = first.0;
    before = λ u q earlier. elim earlier [
      | inl less ↦ before u q less
      | inr same ↦ subst (λ (x : ℕ). Asks slots p x q) (sym same.0) (first.1 q same.1)
    ];
  }

  -- after test 9 all tests pass
  pub held-all : 9 < t → PlacementHolds slots p
  held-all lt = record {
    p1 = λ place. (before 1 place (omega arith)).0 refl;
    p2 = λ place. (before 2 place (omega arith)).1 refl;
    p3 = λ place. (before 3 place (omega arith)).2 refl;
    p4 = λ place. (before 4 place (omega arith)).3 refl;
    p5 = λ place. (before 5 place (omega arith)).4 refl;
    p6 = λ place. (before 6 place (omega arith)).5 refl;
    p7 = λ place. (before 7 place (omega arith)).6 refl;
    p8 = λ place. (before 8 place (omega arith)).7 refl;
    p9 = λ place. (before 9 place (omega arith)).8 refl;
  }

-- there is no test 0
pub asks-none : (slots : SlotList) (p : PlaceCertValue) (t place : ℕ) → t < 1 → Asks slots p t place
asks-none slots p t place low = (
  λ e. absurd (omega (arith, low, e)),
  λ e. absurd (omega (arith, low, e)),
  λ e. absurd (omega (arith, low, e)),
  λ e. absurd (omega (arith, low, e)),
  λ e. absurd (omega (arith, low, e)),
  λ e. absurd (omega (arith, low, e)),
  λ e. absurd (omega (arith, low, e)),
  λ e. absurd (omega (arith, low, e)),
  λ e. absurd (omega (arith, low, e)),
)
