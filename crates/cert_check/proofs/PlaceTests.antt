-- A loop over the places of a test.
use Rattle.std.specs.Prelude.{◌≡◌, ℕ, ◌+◌, ◌≤◌, ◌↔◌, Bool, true, false, IsTrue, Option, Some, None}
use Rattle.std.proofs.Common.{inl, inr, below_more}
use Rattle.std.proofs.lemmas.Bool.{cases_lt, iff_false}
use Rattle.cert_check.specs.Head.{HoldsBefore}
use Rattle.cert_check.specs.Places.{IsFirstFailing}

-- if a test passes at a place, and before it, it holds before the next place
pub before-next : (P : ℕ → Type 0) (n : ℕ) (b : Bool) → HoldsBefore P n → (IsTrue b ↔ P n) → b ≡ true → HoldsBefore P (n + 1)
before-next P n b before test passed = below_more P n before (test.0 passed)

-- if it passes before a place and fails there, this is the first place where it fails
pub fails-here : (P : ℕ → Type 0) (n : ℕ) (b : Bool) → HoldsBefore P n → (IsTrue b ↔ P n) → b ≡ false → IsFirstFailing P (Some n)
fails-here P n b before test failed = (iff_false test failed, before)

-- if it holds before a place, from there on too, it holds everywhere
pub holds-everywhere : (P : ℕ → Type 0) (n : ℕ) → HoldsBefore P n → ((place : ℕ) → n ≤ place → P place) → IsFirstFailing P None
holds-everywhere P n before rest place =
    elim (cases_lt place n) [
      | inl lt ↦ before place lt
      | inr past ↦ rest place past
    ]

-- tests that ask the same have the same first place
pub failing-same : (P Q : ℕ → Type 0) → ((n : ℕ) → P n → Q n) → ((n : ℕ) → Q n → P n) → (r : Option ℕ) → IsFirstFailing P r → IsFirstFailing Q r
failing-same P Q to from None f = λ place. to place (f place)
failing-same P Q to from (Some p) f = (λ q. f.0 (from p q), λ n lt. to n (f.1 n lt))
