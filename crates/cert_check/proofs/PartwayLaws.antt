-- What fails first, as more of a certificate comes.
use Rattle.std.proofs.Common.{◌≡◌, ℕ, ◌+◌, ◌-◌, ◌<◌, ◌≤◌, inl, inr, refl, sym, subst, arith}
use Rattle.std.proofs.lemmas.Bool.{cases_lt}
use Rattle.std.specs.Prelude.{Some, None}
use Rattle.auction_model.specs.Book.{Book}
use Rattle.cert_grammar.specs.Certificate.{CertValue}
use Rattle.cert_soundness.specs.Tests.{Asks, FailsFirst, Holds}
use Rattle.cert_check.specs.Partway.{HoldsTo, IsLate}
use Rattle.cert_check.specs.Places.{IsFirstFailing}

module _ (book : Book) (w : ℕ → ℕ) (c : CertValue) (test : ℕ) where
  -- places that hold after those that hold
  pub holds-further : (base n : ℕ) → HoldsTo book w c test base → ((i : ℕ) → i < n → Asks book w c test (base + i)) → HoldsTo book w c test (base + n)
  holds-further base n before more u q (inl less) = before u q (inl less)
  holds-further base n before more u q (inr (same, lt)) =
      elim (cases_lt q base) [
        | inl low ↦ before u q (inr (same, low))
        | inr high ↦ (let place : base + (q - base) ≡ q = omega (arith, high) in
            subst (λ (x : ℕ). Asks book w c x q) (sym same) (subst (Asks book w c test) place (more (q - base) (omega (arith, high, lt)))))
      ]

  -- the first of them that fails
  pub fails-further : (base p : ℕ) → HoldsTo book w c test base → ((i : ℕ) → i < p → Asks book w c test (base + i)) → (Asks book w c test (base + p) → ⊥)
      → FailsFirst book w c test (base + p)
  fails-further base p before more fails = record { fails = fails; before = holds-further base p before more }

  -- the whole test
  pub holds-whole : (base : ℕ) → HoldsTo book w c test base → ((q : ℕ) → base ≤ q → Asks book w c test q) → HoldsTo book w c (test + 1) 0
  holds-whole base before rest u q (inl less) =
      elim (cases_lt u test) [
        | inl low ↦ before u q (inl low)
        | inr high ↦ (let same : test ≡ u = omega (arith, high, less) in
            subst (λ (x : ℕ). Asks book w c x q) same (elim (cases_lt q base) [
              | inl in_front ↦ before test q (inr (refl, in_front))
              | inr past ↦ rest q past
            ]))
      ]
  holds-whole base before rest u q (inr (same, lt)) = absurd (omega (arith, lt))

  -- a test with its first place
  pub test-fails : (p : ℕ) → HoldsTo book w c test 0 → IsFirstFailing (Asks book w c test) (Some p) → FailsFirst book w c test p
  test-fails p before f = record {
    fails = f.0;
    before = λ u q earlier. elim earlier [
      | inl less ↦ before u q (inl less)
      | inr same ↦ subst (λ (x : ℕ). Asks book w c x q) (sym same.0) (f.1 q same.1)
    ];
  }

  -- a test that holds
  pub test-holds : HoldsTo book w c test 0 → IsFirstFailing (Asks book w c test) None → HoldsTo book w c (test + 1) 0
  test-holds before f = holds-whole 0 before (λ q past. f q)

  -- the first of the places that fails is the first failure of all
  pub table-fails : (base n p : ℕ) → HoldsTo book w c test base → IsLate book w c test base n (Some p) → FailsFirst book w c test (base + p)
  table-fails base n p before late = fails-further base p before late.2 late.1

  -- places that hold, with nothing that fails after them, make the whole test hold
  pub table-holds : (base n : ℕ) → HoldsTo book w c test base → IsLate book w c test base n None → ((q : ℕ) → base + n ≤ q → Asks book w c test q)
      → HoldsTo book w c (test + 1) 0
  table-holds base n before late rest = holds-whole (base + n) (holds-further base n before late) rest

  -- one place more that holds
  pub late-more : (base n : ℕ) → IsLate book w c test base n None → Asks book w c test (base + n) → IsLate book w c test base (n + 1) None
  late-more base n late asks i lt =
      elim (cases_lt i n) [
        | inl low ↦ late i low
        | inr here ↦ (let same : n ≡ i = omega (arith, here, lt) in subst (λ (x : ℕ). Asks book w c test (base + x)) same asks)
      ]

  -- a first fault stays the first with one place more
  pub late-kept : (base n p : ℕ) → IsLate book w c test base n (Some p) → IsLate book w c test base (n + 1) (Some p)
  late-kept base n p late = (omega (arith, late.0), late.1, late.2)

-- all tests pass
pub all-hold : (book : Book) (w : ℕ → ℕ) (c : CertValue) → HoldsTo book w c 10 0 → Holds book w c
all-hold book w c before = record {
  c1 = λ place. (before 1 place (inl (omega arith))).0 refl;
  c2 = λ place. (before 2 place (inl (omega arith))).1 refl;
  c3 = λ place. (before 3 place (inl (omega arith))).2 refl;
  c4 = λ place. (before 4 place (inl (omega arith))).3 refl;
  c5 = λ place. (before 5 place (inl (omega arith))).4 refl;
  c6 = λ place. (before 6 place (inl (omega arith))).5 refl;
  c7 = λ place. (before 7 place (inl (omega arith))).6 refl;
  c8 = λ place. (before 8 place (inl (omega arith))).7 refl;
  c9 = λ place. (before 9 place (inl (omega arith))).8 refl;
}
