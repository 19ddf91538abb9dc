-- Sizes of sums and products, and numbers that come back from their bits.
use Rattle.std.proofs.Common.{◌≡◌, ℕ, ◌+◌, ◌^◌, ◌≤◌, add-one, refl, arith, ap, ◌∙◌, to_z, of_z, unsigned_abs}
use Rattle.std.specs.Prelude.{ℤ, pos, negsuc, ◌+ℤ◌, ◌*ℤ◌, ◌≤ℤ◌, ◌<ℤ◌}
use Rattle.std.specs.Int.{w128}
use Rattle.std.proofs.lemmas.Int.{ints}
use Rattle.std.proofs.lemmas.Nat.{mul-le}
use Rattle.wide_num.specs.Sums.{total}
use Rattle.nearest_point.specs.Numbers.{large}

-- a sum of one term more is the sum and this term
pub total_more : (n : ℕ) (f : ℕ → ℤ) → total (n + 1) f ≡ total n f +ℤ f n
total_more n f = rw add-one refl

-- a number of at most 2^117 in size comes back from its 128 bits
pub back : (x : ℤ) → unsigned_abs x ≤ 2 ^ 117 → to_z w128 (of_z w128 x) ≡ x
back x h = omega (arith, ints)

-- a denominator of at most 320^4 times a bound of at most 2^46 is at most 2^117 in size
pub product_within : (d b : ℤ) → pos 0 <ℤ d → d ≤ℤ pos (320 ^ 4) → pos 0 ≤ℤ b → b ≤ℤ pos (2 ^ 46) → unsigned_abs (d *ℤ b) ≤ 2 ^ 117
product_within (pos a) (pos c) p q r s = let m = mul-le a c (320 ^ 4) (2 ^ 46) (omega (arith, ints)) (omega (arith, ints)) in omega (arith, ints)
product_within (pos a) (negsuc c) p q r s = absurd (omega (arith, ints))
product_within (negsuc a) b p q r s = absurd (omega (arith, ints))

-- in 128 bits a denominator of at most 320^4 times a bound of at most 2^46 is the exact product
pub product_back : (d b : ℤ) → pos 0 <ℤ d → d ≤ℤ pos (320 ^ 4) → pos 0 ≤ℤ b → b ≤ℤ pos (2 ^ 46)
    → to_z w128 (of_z w128 (to_z w128 (of_z w128 d) *ℤ to_z w128 (of_z w128 b))) ≡ d *ℤ b
product_back d b p q r s =
    let e : to_z w128 (of_z w128 d) ≡ d = omega (arith, ints) in
    let f : to_z w128 (of_z w128 b) ≡ b = omega (arith, ints) in
    ap (λ (z : ℤ). to_z w128 (of_z w128 (z *ℤ to_z w128 (of_z w128 b)))) e ∙ ap (λ (z : ℤ). to_z w128 (of_z w128 (d *ℤ z))) f
    ∙ back (d *ℤ b) (product_within d b p q r s)

-- a number is below another if far and near parts equal to its own come to less at the large t
pub less_is : (f n l x y p s : ℤ) → f ≡ x → n ≡ y → l ≡ p → s ≡ x *ℤ large +ℤ y → (f *ℤ large +ℤ n) <ℤ l → s <ℤ p
less_is f n l x y p s e g h o lt = omega (arith, ints)

-- a number is at least another if far and near parts equal to its own come to no less at the large t
pub more_is : (f n l x y p s : ℤ) → f ≡ x → n ≡ y → l ≡ p → s ≡ x *ℤ large +ℤ y → l ≤ℤ (f *ℤ large +ℤ n) → p ≤ℤ s
more_is f n l x y p s e g h o le = omega (arith, ints)
