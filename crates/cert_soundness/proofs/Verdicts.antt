-- A certificate has one verdict.
use Rattle.std.specs.Prelude.{◌≡◌, ℕ, refl}
use Rattle.std.proofs.Common.{inl, inr, sym}
use Rattle.std.proofs.lemmas.Bool.{cases_order}
use Rattle.auction_model.specs.Book.{Book}
use Rattle.cert_grammar.specs.Certificate.{CertValue}
use Rattle.cert_soundness.specs.Tests.{Asks, Holds, FailsFirst}

-- if all tests pass, each test passes at each place
pub all_asked : (book : Book) (w : ℕ → ℕ) (c : CertValue) → Holds book w c → (t place : ℕ) → Asks book w c t place
all_asked book w c h t place = (
  λ e. h.c1 place,
  λ e. h.c2 place,
  λ e. h.c3 place,
  λ e. h.c4 place,
  λ e. h.c5 place,
  λ e. h.c6 place,
  λ e. h.c7 place,
  λ e. h.c8 place,
  λ e. h.c9 place,
)

-- if each test passes at each place, all tests pass
pub holds_all : (book : Book) (w : ℕ → ℕ) (c : CertValue) → ((t place : ℕ) → Asks book w c t place) → Holds book w c
holds_all book w c all = record {
  c1 = λ p. (all 1 p).0 refl;
  c2 = λ p. (all 2 p).1 refl;
  c3 = λ p. (all 3 p).2 refl;
  c4 = λ p. (all 4 p).3 refl;
  c5 = λ p. (all 5 p).4 refl;
  c6 = λ p. (all 6 p).5 refl;
  c7 = λ p. (all 7 p).6 refl;
  c8 = λ p. (all 8 p).7 refl;
  c9 = λ p. (all 9 p).8 refl;
}

-- if all tests pass, none fails first
pub not_both : (book : Book) (w : ℕ → ℕ) (c : CertValue) (t place : ℕ) → Holds book w c → FailsFirst book w c t place → ⊥
not_both book w c t place h f = f.fails (all_asked book w c h t place)

-- the test that fails first is one test at one place
pub one_verdict : (book : Book) (w : ℕ → ℕ) (c : CertValue) (t p u q : ℕ) → FailsFirst book w c t p → FailsFirst book w c u q → (t ≡ u) × (p ≡ q)
one_verdict book w c t p u q f g =
    elim (cases_order t u) [
      | inl same ↦ elim (cases_order p q) [
        | inl places ↦ (same, places)
        | inr apart ↦ elim apart [
          | inl less ↦ absurd (f.fails (g.before t p (inr (same, less))))
          | inr more ↦ absurd (g.fails (f.before u q (inr (sym same, more))))
        ]
      ]
      | inr apart ↦ elim apart [
        | inl less ↦ absurd (f.fails (g.before t p (inl less)))
        | inr more ↦ absurd (g.fails (f.before u q (inl more)))
      ]
    ]
