-- The tests in their order, and the verdict.
use Rattle.std.specs.Prelude.{◌≡◌, ℕ, ◌+◌, ◌<◌, Option, Some, None, refl}
use Rattle.std.proofs.Common.{inl, inr, sym, subst, arith}
use Rattle.std.proofs.lemmas.Bool.{cases_lt}
use Rattle.auction_model.specs.Book.{Book}
use Rattle.cert_grammar.specs.Certificate.{CertValue}
use Rattle.cert_soundness.specs.Tests.{Asks, C1, C2, C3, C4, C5, C6, C7, C8, C9, FailsFirst, Holds}
use Rattle.cert_check.specs.Head.{HoldsUpTo, HeadHolds}
use Rattle.cert_check.specs.Places.{IsFirstFailing}
use Rattle.cert_check.proofs.PlaceTests.{failing-same}

module _ (book : Book) (w : ℕ → ℕ) (c : CertValue) (t : ℕ) (before : HoldsUpTo book w c t) where
  -- after test 1 the sizes are right
  pub held-C1 : 1 < t → (place : ℕ) → C1 c place
  held-C1 lt place = (before 1 place lt).0 refl

  -- after test 2 the choice is right
  pub held-C2 : 2 < t → (place : ℕ) → C2 book c place
  held-C2 lt place = (before 2 place lt).1 refl

  -- after test 3 the head's table is right
  pub held-C3 : 3 < t → (place : ℕ) → C3 book c place
  held-C3 lt place = (before 3 place lt).2 refl

  -- after test 4 the parts without each winner are right
  pub held-C4 : 4 < t → (place : ℕ) → C4 book c place
  held-C4 lt place = (before 4 place lt).3 refl

  -- after test 3 the head is right
  pub held-head : 3 < t → HeadHolds book c
  held-head lt = record { sizes = held-C1 (omega arith); choice = held-C2 (omega arith); table = held-C3 lt }

  -- if test t holds too, all tests before t + 1 do
  pub held-next : IsFirstFailing (Asks book w c t) None → HoldsUpTo book w c (t + 1)
  held-next all u place lt =
      elim (cases_lt u t) [
        | inl less ↦ before u place less
        | inr past ↦ (let same : t ≡ u = omega arith in subst (λ (x : ℕ). Asks book w c x place) same (all place))
      ]

  -- the first place where test t fails is the first failure of all
  pub fails-first : (place : ℕ) → IsFirstFailing (Asks book w c t) (Some place) → FailsFirst book w c t place
  fails-first place first = record {
    fails = first.0;
    before = λ u q earlier. elim earlier [
      | inl less ↦ before u q less
      | inr same ↦ subst (λ (x : ℕ). Asks book w c x q) (sym same.0) (first.1 q same.1)
    ];
  }

  -- after test 9 all tests pass
  pub held-all : 9 < t → Holds book w c
  held-all lt = record {
    c1 = λ place. (before 1 place (omega arith)).0 refl;
    c2 = λ place. (before 2 place (omega arith)).1 refl;
    c3 = λ place. (before 3 place (omega arith)).2 refl;
    c4 = λ place. (before 4 place (omega arith)).3 refl;
    c5 = λ place. (before 5 place (omega arith)).4 refl;
    c6 = λ place. (before 6 place (omega arith)).5 refl;
    c7 = λ place. (before 7 place (omega arith)).6 refl;
    c8 = λ place. (before 8 place (omega arith)).7 refl;
    c9 = λ place. (before 9 place (omega arith)).8 refl;
  }

-- the test of a number asks what that test asks
module _ (book : Book) (w : ℕ → ℕ) (c : CertValue) (t : ℕ) (r : Option ℕ) where
  -- test 1 fails first if C1 does
  pub asks-C1 : t ≡ 1 → IsFirstFailing (C1 c) r → IsFirstFailing (Asks book w c t) r
  asks-C1 is f = failing-same (C1 c) (Asks book w c t) (λ p q. (
    λ _. q,
    λ e. absurd (omega (arith, is, e)),
    λ e. absurd (omega (arith, is, e)),
    λ e. absurd (omega (arith, is, e)),
    λ e. absurd (omega (arith, is, e)),
    λ e. absurd (omega (arith, is, e)),
    λ e. absurd (omega (arith, is, e)),
    λ e. absurd (omega (arith, is, e)),
    λ e. absurd (omega (arith, is, e)),
  )) (λ p q. q.0 is) r f

  -- test 2 fails first if C2 does
  pub asks-C2 : t ≡ 2 → IsFirstFailing (C2 book c) r → IsFirstFailing (Asks book w c t) r
  asks-C2 is f = failing-same (C2 book c) (Asks book w c t) (λ p q. (
    λ e. absurd (omega (arith, is, e)),
    λ _. q,
    λ e. absurd (omega (arith, is, e)),
    λ e. absurd (omega (arith, is, e)),
    λ e. absurd (omega (arith, is, e)),
    λ e. absurd (omega (arith, is, e)),
    λ e. absurd (omega (arith, is, e)),
    λ e. absurd (omega (arith, is, e)),
    λ e. absurd (omega (arith, is, e)),
  )) (λ p q. q.1 is) r f

  -- test 3 fails first if C3 does
  pub asks-C3 : t ≡ 3 → IsFirstFailing (C3 book c) r → IsFirstFailing (Asks book w c t) r
  asks-C3 is f = failing-same (C3 book c) (Asks book w c t) (λ p q. (
    λ e. absurd (omega (arith, is, e)),
    λ e. absurd (omega (arith, is, e)),
    λ _. q,
    λ e. absurd (omega (arith, is, e)),
    λ e. absurd (omega (arith, is, e)),
    λ e. absurd (omega (arith, is, e)),
    λ e. absurd (omega (arith, is, e)),
    λ e. absurd (omega (arith, is, e)),
    λ e. absurd (omega (arith, is, e)),
  )) (λ p q. q.2 is) r f

  -- test 4 fails first if C4 does
  pub asks-C4 : t ≡ 4 → IsFirstFailing (C4 book c) r → IsFirstFailing (Asks book w c t) r
  asks-C4 is f = failing-same (C4 book c) (Asks book w c t) (λ p q. (
    λ e. absurd (omega (arith, is, e)),
    λ e. absurd (omega (arith, is, e)),
    λ e. absurd (omega (arith, is, e)),
    λ _. q,
    λ e. absurd (omega (arith, is, e)),
    λ e. absurd (omega (arith, is, e)),
    λ e. absurd (omega (arith, is, e)),
    λ e. absurd (omega (arith, is, e)),
    λ e. absurd (omega (arith, is, e)),
  )) (λ p q. q.3 is) r f

  -- test 5 fails first if C5 does
  pub asks-C5 : t ≡ 5 → IsFirstFailing (C5 book c) r → IsFirstFailing (Asks book w c t) r
  asks-C5 is f = failing-same (C5 book c) (Asks book w c t) (λ p q. (
    λ e. absurd (omega (arith, is, e)),
    λ e. absurd (omega (arith, is, e)),
    λ e. absurd (omega (arith, is, e)),
    λ e. absurd (omega (arith, is, e)),
    λ _. q,
    λ e. absurd (omega (arith, is, e)),
    λ e. absurd (omega (arith, is, e)),
    λ e. absurd (omega (arith, is, e)),
    λ e. absurd (omega (arith, is, e)),
  )) (λ p q. q.4 is) r f

  -- test 6 fails first if C6 does
  pub asks-C6 : t ≡ 6 → IsFirstFailing (C6 book c) r → IsFirstFailing (Asks book w c t) r
  asks-C6 is f = failing-same (C6 book c) (Asks book w c t) (λ p q. (
    λ e. absurd (omega (arith, is, e)),
    λ e. absurd (omega (arith, is, e)),
    λ e. absurd (omega (arith, is, e)),
    λ e. absurd (omega (arith, is, e)),
    λ e. absurd (omega (arith, is, e)),
    λ _. q,
    λ e. absurd (omega (arith, is, e)),
    λ e. absurd (omega (arith, is, e)),
    λ e. absurd (omega (arith, is, e)),
  )) (λ p q. q.5 is) r f

  -- test 7 fails first if C7 does
  pub asks-C7 : t ≡ 7 → IsFirstFailing (C7 book c) r → IsFirstFailing (Asks book w c t) r
  asks-C7 is f = failing-same (C7 book c) (Asks book w c t) (λ p q. (
    λ e. absurd (omega (arith, is, e)),
    λ e. absurd (omega (arith, is, e)),
    λ e. absurd (omega (arith, is, e)),
    λ e. absurd (omega (arith, is, e)),
    λ e. absurd (omega (arith, is, e)),
    λ e. absurd (omega (arith, is, e)),
    λ _. q,
    λ e. absurd (omega (arith, is, e)),
    λ e. absurd (omega (arith, is, e)),
  )) (λ p q. q.6 is) r f

  -- test 8 fails first if C8 does
  pub asks-C8 : t ≡ 8 → IsFirstFailing (C8 book w c) r → IsFirstFailing (Asks book w c t) r
  asks-C8 is f = failing-same (C8 book w c) (Asks book w c t) (λ p q. (
    λ e. absurd (omega (arith, is, e)),
    λ e. absurd (omega (arith, is, e)),
    λ e. absurd (omega (arith, is, e)),
    λ e. absurd (omega (arith, is, e)),
    λ e. absurd (omega (arith, is, e)),
    λ e. absurd (omega (arith, is, e)),
    λ e. absurd (omega (arith, is, e)),
    λ _. q,
    λ e. absurd (omega (arith, is, e)),
  )) (λ p q. q.7 is) r f

  -- test 9 fails first if C9 does
  pub asks-C9 : t ≡ 9 → IsFirstFailing (C9 book c) r → IsFirstFailing (Asks book w c t) r
  asks-C9 is f = failing-same (C9 book c) (Asks book w c t) (λ p q. (
    λ e. absurd (omega (arith, is, e)),
    λ e. absurd (omega (arith, is, e)),
    λ e. absurd (omega (arith, is, e)),
    λ e. absurd (omega (arith, is, e)),
    λ e. absurd (omega (arith, is, e)),
    λ e. absurd (omega (arith, is, e)),
    λ e. absurd (omega (arith, is, e)),
    λ e. absurd (omega (arith, is, e)),
    λ _. q,
  )) (λ p q. q.8 is) r f
