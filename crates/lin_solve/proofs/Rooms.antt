-- Products and combinations of small rows stay in the range.
use Rattle.std.proofs.Common.{◌≡◌, ◌≢◌, ℕ, zero, suc, ◌+◌, ◌-◌, ◌*◌, ◌^◌, ◌<◌, ◌≤◌, ℤ, pos, ◌-ℤ◌, ◌*ℤ◌, length, List, arith, ap, unsigned_abs}
use Rattle.std.proofs.Math.Nat.{mul-le-mul, one-le-pow}
use Rattle.std.proofs.Math.IntN.{*ℤ-zero}
use Rattle.wide_num.proofs.Ints.{lin, mul-zero_cases}
use Rattle.lin_solve.specs.Bounds.{nat_total, size, reach, bound, IsWithin}
use Rattle.lin_solve.specs.Elimination.{product}
use Rattle.wide_num.specs.Sums.{dot, nth}
use Rattle.lin_solve.proofs.Siegel.{nat_total-le, abs_dot}
use Rattle.lin_solve.proofs.Small.{le_mul, mul_le, nat_total-scale}

sum_small : (n : ℕ) (a v : ℕ → ℤ) (s h : ℕ) → size n a ≤ s → IsWithin h n v → nat_total n (λ (i : ℕ). unsigned_abs (a i) * unsigned_abs (v i)) ≤ s * h
sum_small n a v s h sized small =
    omega (
      arith,
      nat_total-le n (λ (i : ℕ). unsigned_abs (a i) * unsigned_abs (v i)) (λ (i : ℕ). unsigned_abs (a i) * h)
          (λ i l. le_mul (unsigned_abs (a i)) (unsigned_abs (v i)) h (small i l)),
      nat_total-scale n h (λ (i : ℕ). unsigned_abs (a i)),
      mul_le h (size n a) s sized,
    )

-- the sum of the products of numbers of sizes s in all with numbers up to h is at most s times h in size
pub dot_small : (n : ℕ) (a v : ℕ → ℤ) (s h : ℕ) → size n a ≤ s → IsWithin h n v → unsigned_abs (dot n a v) ≤ s * h
dot_small n a v s h sized small = omega (arith, abs_dot n a v, sum_small n a v s h sized small)

-- the sizes of the products of a list of sizes s in all with a list of numbers up to h sum to at most s times h
pub reach_small : (a v : List ℤ) (s h : ℕ) → size (length a) (nth a) ≤ s → IsWithin h (length a) (nth v) → reach a v ≤ s * h
reach_small a v s h sized small = sum_small (length a) (nth a) (nth v) s h sized small

-- the product of a row of sizes s in all with a row of numbers up to h is at most s times h in size
pub product_small : (a v : List ℤ) (s h : ℕ) → size (length a) (nth a) ≤ s → IsWithin h (length a) (nth v) → unsigned_abs (product a v) ≤ s * h
product_small a v s h sized small = dot_small (length a) (nth a) (nth v) s h sized small

four : (x y v w s h : ℕ) → x ≤ s * h → y ≤ s * h → v ≤ h → w ≤ h → x * v + y * w ≤ 2 * (s * (h * h))
four x y v w s h a b c d =
    let p : x * v ≤ s * h * h = mul-le-mul a c in
    let q : y * w ≤ s * h * h = mul-le-mul b d in
    omega (arith, p, q)

-- two products of a number up to s times h and one up to h sum to less than 2^120 if 2 s h h is less than that
pub mixed_room : (x y v w s h : ℕ) → x ≤ s * h → y ≤ s * h → v ≤ h → w ≤ h → 2 * (s * (h * h)) < 2 ^ 120 → x * v + y * w < 2 ^ 120
mixed_room x y v w s h a b c d r = omega (arith, four x y v w s h a b c d, r)

-- a number up to s times h, with h at least 1, is less than 2^120 if 2 s h h is
pub reach_room : (s h r : ℕ) → 1 ≤ h → r ≤ s * h → 2 * (s * (h * h)) < 2 ^ 120 → r < 2 ^ 120
reach_room s zero r one a b = absurd (omega arith)
reach_room s (suc h) r one a b = omega (arith, a, b)

-- the bound of a limit of at least 1 is at least 1
pub bound_some : (limit n : ℕ) → 1 ≤ limit → 1 ≤ bound limit n
bound_some limit n h = one-le-pow (n - 1) limit h

-- a product of numbers other than 0 less a multiple of 0 isn't 0
pub apart_left : (s t x y : ℤ) → s ≢ pos 0 → x ≢ pos 0 → y ≡ pos 0 → s *ℤ x -ℤ t *ℤ y ≢ pos 0
apart_left s t x y ns nx e z = nx (mul-zero_cases s x (omega (arith, lin, ap (λ (d : ℤ). t *ℤ d) e, *ℤ-zero t, z)) ns)
