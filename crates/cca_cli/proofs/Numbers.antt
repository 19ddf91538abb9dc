-- The number that a word says.
use Rattle.std.proofs.Common.{inl, inr, ◌≡◌, ◌∙◌, ℕ, ◌<◌, ◌≤◌, ◌^◌, Bool, true, false, Some, None, List, refl, sym, ap, arith}
use Rattle.std.specs.Prelude.{◌&&◌, nat_lt, if◌then◌else◌}
use Rattle.std.specs.Fmt.{decimal}
use Rattle.std.specs.Str.{bytes_eq}
use Rattle.std.specs.Str.Parse.{digits_value}
use Rattle.std.proofs.lemmas.Fmt.{decimal_is_IsNumeral_wide}
use Rattle.std.proofs.lemmas.Bool.{cases_Bool}
use Rattle.std.proofs.lemmas.Bool.Decides.{nat_tests}
use Rattle.std.proofs.lemmas.Slice.Eq.{bytes_eq-Decides}
use Rattle.cca_cli.specs.Command.{number_said}

-- the value of the digits of a number
value-of : (w : List ℕ) (n : ℕ) → n < 2 ^ 120 → w ≡ decimal n → digits_value 10 w ≡ n
value-of w n small is = ap (digits_value 10) is ∙ (decimal_is_IsNumeral_wide n (omega arith)).1

chosen : (a b : Bool) (n : ℕ) → a ≡ true → b ≡ true → Some n ≡ (if a && b then Some n else None)
chosen a b n x y = rw (x, y) refl

not-first : (a b : Bool) (n : ℕ) → a ≡ false → None ≡ (if a && b then Some n else None)
not-first a b n x = rw x refl

not-second : (a b : Bool) (n : ℕ) → b ≡ false → None ≡ (if a && b then Some n else None)
not-second true b n y = rw y refl
not-second false b n y = refl

-- a number that isn't too large
pub says : (w : List ℕ) (n : ℕ) → n < 2 ^ 32 → w ≡ decimal n → Some n ≡ number_said w
says w n small is =
    let value = value-of w n (omega arith) is in
    ap Some (sym value) ∙ chosen (bytes_eq w (decimal (digits_value 10 w))) (nat_lt (digits_value 10 w) (2 ^ 32)) (digits_value 10 w)
    ((bytes_eq-Decides w (decimal (digits_value 10 w))).1 (is ∙ ap decimal (sym value))) (grind (arith, nat_tests, value, small))

-- one that is too large
pub too-large : (w : List ℕ) (n : ℕ) → n < 2 ^ 120 → 2 ^ 32 ≤ n → w ≡ decimal n → None ≡ number_said w
too-large w n small large is =
    let value = value-of w n small is in
    not-second (bytes_eq w (decimal (digits_value 10 w))) (nat_lt (digits_value 10 w) (2 ^ 32)) (digits_value 10 w) (grind (arith, nat_tests, value, large))

-- no number
pub none-said : (w : List ℕ) → ((n : ℕ) → n < 2 ^ 120 → w ≡ decimal n → ⊥) → None ≡ number_said w
none-said w none =
    elim (cases_Bool (nat_lt (digits_value 10 w) (2 ^ 32))) [
      | inl e ↦ elim (cases_Bool (bytes_eq w (decimal (digits_value 10 w)))) [
        | inl same ↦ (let lt : digits_value 10 w < 2 ^ 32 = grind (arith, nat_tests, e) in
            absurd (none (digits_value 10 w) (omega (arith, lt)) ((bytes_eq-Decides w (decimal (digits_value 10 w))).0 same)))
        | inr other ↦ not-first (bytes_eq w (decimal (digits_value 10 w))) (nat_lt (digits_value 10 w) (2 ^ 32)) (digits_value 10 w) other
      ]
      | inr e ↦ not-second (bytes_eq w (decimal (digits_value 10 w))) (nat_lt (digits_value 10 w) (2 ^ 32)) (digits_value 10 w) e
    ]
