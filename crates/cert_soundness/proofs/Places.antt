-- Lines and places of a table as one number, in their order.
use Rattle.std.specs.Prelude.{◌≡◌, ℕ, suc, ◌+◌, ◌*◌, ◌≤◌, ◌<◌, ◌⊎◌, ℤ, List, refl}
use Rattle.std.proofs.Common.{inl, inr, sym, ap, subst, arith}
use Rattle.std.proofs.lemmas.Bool.{cases_order}
use Rattle.std.proofs.Math.Nat.{mul-le-mul_left}
use Rattle.auction_model.specs.Menu.{Menu}
use Rattle.auction_model.specs.Place.{states_of}
use Rattle.cert_soundness.specs.Tests.{ObeysAt}

-- the number of a line and a place comes before that of another only if the line does, or the place in the same line
pub place_before : (S k s l t : ℕ) → s < S → t < S → k * S + s < l * S + t → (k < l) ⊎ ((k ≡ l) × (s < t))
place_before S k s l t ls lt h =
    elim (cases_order k l) [
      | inl same ↦ (let e : k * S ≡ l * S = ap (λ (x : ℕ). x * S) same in inr (same, omega (arith, h, e)))
      | inr apart ↦ elim apart [
        | inl less ↦ inl less
        | inr more ↦ (let le : suc l ≤ k = omega (arith, more) in absurd (omega (arith, h, lt, mul-le-mul_left S le)))
      ]
    ]

-- equal numbers are of the same line and the same place
pub one_place : (S k s l t : ℕ) → s < S → t < S → k * S + s ≡ l * S + t → (k ≡ l) × (s ≡ t)
one_place S k s l t ls lt h =
    elim (cases_order k l) [
      | inl same ↦ (let e : k * S ≡ l * S = ap (λ (x : ℕ). x * S) same in (same, omega (arith, h, e)))
      | inr apart ↦ elim apart [
        | inl less ↦ (let le : suc k ≤ l = omega (arith, less) in absurd (omega (arith, h, ls, mul-le-mul_left S le)))
        | inr more ↦ (let le : suc l ≤ k = omega (arith, more) in absurd (omega (arith, h, lt, mul-le-mul_left S le)))
      ]
    ]

-- what the rules ask at a number
abbrev pub RulesAt : Menu → (ℕ → ℕ → ℤ) → List ℕ → List (List ℤ) → ℕ → Type 0
RulesAt m worth supply table place = (k s : ℕ) → k ≤ m.bidders → s < states_of supply → place ≡ k * states_of supply + s → ObeysAt m worth supply table k s

-- the lines before this one keep the rules, and this one at the places before s, but not at s: so that is the first number
pub first_rule : (m : Menu) (worth : ℕ → ℕ → ℤ) (supply : List ℕ) (table : List (List ℤ)) (k s : ℕ) → k ≤ m.bidders → s < states_of supply
    → ((l t : ℕ) → l < k → t < states_of supply → ObeysAt m worth supply table l t) → ((t : ℕ) → t < s → ObeysAt m worth supply table k t)
    → (ObeysAt m worth supply table k s → ⊥)
    → ((q : ℕ) → q < k * states_of supply + s → RulesAt m worth supply table q) × (RulesAt m worth supply table (k * states_of supply + s) → ⊥)
first_rule m worth supply table k s le lt lines here fails = (
  λ q below l t ll lt' e. elim (place_before (states_of supply) l t k s lt' lt (omega (arith, below, e))) [
    | inl less ↦ lines l t less lt'
    | inr same ↦ subst (λ (x : ℕ). ObeysAt m worth supply table x t) (sym same.0) (here t same.1)
  ],
  λ all. fails (all k s le lt refl),
)
