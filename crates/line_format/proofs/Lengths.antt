-- How long the digits of numbers are.
use Rattle.std.proofs.Common.{ℕ, suc, zero, ◌+◌, ◌*◌, ◌/◌, ◌%◌, ◌≤◌, ◌<◌, List, [], ◌∷◌, length, ap, arith, length-append, inl, inr}
use Rattle.std.proofs.lemmas.Bool.{cases_lt}
use Rattle.std.specs.Prelude.{ℤ, pos, negsuc, unsigned_abs}
use Rattle.line_format.specs.Numeral.{numeral, signed_numeral, numbers_text}
use Rattle.line_format.proofs.Numerals.{numeral-one, numeral-more}

-- 10 times itself, so often
abbrev pub tens : ℕ → ℕ
tens zero = 1
tens (suc d) = 10 * tens d

-- a number below 10^d has at most d digits
pub numeral_long : (d n : ℕ) → n < tens (suc d) → length (numeral n) ≤ suc d
numeral_long zero n small = omega (arith, ap length (numeral-one n (omega (arith, small))))
numeral_long (suc d) n small =
    elim (cases_lt n 10) [
      | inl low ↦ omega (arith, ap length (numeral-one n low))
      | inr high ↦ (
          let front = numeral_long d (n / 10) (omega (arith, small)) in
          omega (arith, ap length (numeral-more n high), length-append (numeral (n / 10)) ((48 + n % 10) ∷ []), front))
    ]

-- and a sign more
pub signed_long : (d : ℕ) (z : ℤ) → unsigned_abs z < tens (suc d) → length (signed_numeral z) ≤ suc (suc d)
signed_long d (pos n) small = omega (arith, numeral_long d n small)
signed_long d (negsuc n) small = omega (arith, numeral_long d (suc n) small)

-- that many times k
abbrev pub times : ℕ → ℕ → ℕ
times zero k = 0
times (suc n) k = k + times n k

-- each is smaller in size than this
abbrev pub AllBelow : ℕ → List ℤ → Type 0
AllBelow most [] = Unit {0}
AllBelow most (z ∷ zs) = (unsigned_abs z < most) × AllBelow most zs

-- numbers of at most d digits, each with a space and a sign
pub numbers_long : (d : ℕ) (zs : List ℤ) → AllBelow (tens (suc d)) zs → length (numbers_text zs) ≤ times (length zs) (suc (suc (suc d)))
numbers_long d [] small = omega arith
numbers_long d (z ∷ zs) small =
    let one = signed_long d z small.0 in
    let rest = numbers_long d zs small.1 in
    omega (arith, one, rest, length-append (signed_numeral z) (numbers_text zs))
