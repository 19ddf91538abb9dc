-- Products that stay in the range.
use Rattle.std.specs.Prelude.{◌≡◌, ℕ, ◌+◌, ◌*◌, ◌^◌, ◌≤◌, ◌<◌, ℤ, pos, negsuc, ◌+ℤ◌, ◌*ℤ◌, ◌≤ℤ◌, ◌<ℤ◌, unsigned_abs, refl}
use Rattle.std.proofs.Common.{◌∙◌, ap, arith}
use Rattle.std.proofs.lemmas.Int.{ints, unsigned_abs-mul}
use Rattle.std.proofs.Math.Nat.{mul-le-mul_left}

positive-product : (a b : ℤ) → pos 0 ≤ℤ a → pos 0 ≤ℤ b → a *ℤ b ≡ pos (unsigned_abs a * unsigned_abs b)
positive-product (pos a) (pos b) h k = refl
positive-product (pos a) (negsuc b) h k = absurd (omega (arith, ints))
positive-product (negsuc a) b h k = absurd (omega (arith, ints))

abs-more : (z : ℤ) → pos 0 ≤ℤ z → unsigned_abs (z +ℤ pos 1) ≡ unsigned_abs z + 1
abs-more z h = omega (arith, ints)

-- the denominator times a number no larger than the value is in the range
pub product-small : (den value amount : ℤ) → pos 1 ≤ℤ den → pos 0 ≤ℤ value → (den *ℤ (value +ℤ pos 1)) <ℤ pos (2 ^ 120)
    → unsigned_abs amount ≤ unsigned_abs value → unsigned_abs (den *ℤ amount) < 2 ^ 120
product-small den value amount d v small low =
    let D = unsigned_abs den in
    let V = unsigned_abs value in
    let whole : den *ℤ (value +ℤ pos 1) ≡ pos (D * (V + 1)) =
    positive-product den (value +ℤ pos 1) (omega (arith, ints)) (omega (arith, ints)) ∙ ap (λ (n : ℕ). pos (D * n)) (abs-more value v) in
    let top : D * (V + 1) < 2 ^ 120 = omega (arith, ints, small, whole) in
    let own = mul-le-mul_left D low in
    let product = unsigned_abs-mul den amount in
    omega (arith, own, product, top)
