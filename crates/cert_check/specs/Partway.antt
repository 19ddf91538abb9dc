-- What is known of the tests when only a part of a certificate has come.
use Rattle.std.specs.Prelude.{◌≡◌, ℕ, ◌+◌, ◌<◌, ◌⊎◌, ◌^◌, Option, Some, None}
use Rattle.auction_model.specs.Book.{Book}
use Rattle.cert_grammar.specs.Certificate.{CertValue}
use Rattle.cert_soundness.specs.Tests.{Asks, FailsFirst}
use Rattle.cert_check.specs.declared.failure.Failure.{Failure}

-- all tests pass before this place of this test
abbrev pub HoldsTo : Book → (ℕ → ℕ) → CertValue → ℕ → ℕ → Type 0
HoldsTo book w c test place = (u q : ℕ) → (u < test) ⊎ ((u ≡ test) × (q < place)) → Asks book w c u q

-- either all tests pass before this place of this test, or what fails first is known
abbrev pub IsJudged : Book → (ℕ → ℕ) → CertValue → ℕ → ℕ → Option Failure → Type 0
IsJudged book w c test place None = HoldsTo book w c test place
IsJudged book w c test place (Some f) = FailsFirst book w c f.test f.place

-- the failure of a test at a place, if there is one
abbrev pub failure_at : ℕ → Option ℕ → Option Failure
failure_at test None = None
failure_at test (Some place) = Some (record { test = test; place = place })

-- of the first n places after a base, this is the first where the test fails, or it fails at
-- none
abbrev pub IsLate : Book → (ℕ → ℕ) → CertValue → ℕ → ℕ → ℕ → Option ℕ → Type 0
IsLate book w c test base n None = (i : ℕ) → i < n → Asks book w c test (base + i)
IsLate book w c test base n (Some p) = (p < n) × (Asks book w c test (base + p) → ⊥)
    × ((i : ℕ) → i < p → Asks book w c test (base + i))

-- a place that stays in 64 bits after another
abbrev pub IsSmallPlace : Option ℕ → Type 0
IsSmallPlace None = Unit {0}
IsSmallPlace (Some p) = p < 2 ^ 62
