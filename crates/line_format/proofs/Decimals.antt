-- The library's decimal digits of a number are its numeral, as far as the library can print it.
use Rattle.std.proofs.Common.{◌≡◌, ℕ, suc, ◌^◌, ◌<◌, ◌≤◌, ◌/◌, ◌%◌, ◌+◌, List, [], ◌∷◌, ◌++◌, sym, ap, ◌∙◌}
use Rattle.std.specs.Prelude.{ℤ, pos, negsuc, unsigned_abs}
use Rattle.std.specs.Fmt.{decimal, signed_decimal}
use Rattle.std.proofs.lemmas.Fmt.{decimal_by_steps_wide}
use Rattle.line_format.specs.Numeral.{numeral, signed_numeral}
use Rattle.line_format.proofs.Numerals.{numeral-one, numeral-more}

-- the library's decimal text of a natural number below 10^64 is its numeral
pub decimal_numeral : (n : ℕ) → n < 10 ^ 64 → decimal n ≡ numeral n
decimal_numeral n small = decimal_by_steps_wide IsOf one more n small
  where
    IsOf : ℕ → List ℕ → Type 0
    IsOf m ds = ds ≡ numeral m

    one : (m : ℕ) → m < 10 → IsOf m ((48 + m) ∷ [])
    one m low = sym (numeral-one m low)

    more : (m : ℕ) (ds : List ℕ) → 10 ≤ m → IsOf (m / 10) ds → IsOf m (ds ++ (48 + m % 10) ∷ [])
    more m ds high is = ap (λ (l : List ℕ). l ++ (48 + m % 10) ∷ []) is ∙ sym (numeral-more m high)

-- the library's text of a signed number is its signed numeral, if the absolute value is below 10^64
pub signed_decimal_numeral : (z : ℤ) → unsigned_abs z < 10 ^ 64 → signed_decimal z ≡ signed_numeral z
signed_decimal_numeral (pos n) small = decimal_numeral n small
signed_decimal_numeral (negsuc n) small = ap (λ (l : List ℕ). 45 ∷ l) (decimal_numeral (suc n) small)
