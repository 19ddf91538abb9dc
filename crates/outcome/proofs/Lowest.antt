-- A fraction by division and a greatest common divisor, and a fraction that is greater by a whole number.
use Rattle.std.proofs.Common.{FitsSigned, ap, arith, of_z, pos, refl, subst, suc, sym, to_z, unsigned_abs, zero, ℕ, ℤ, ◌%◌, ◌*ℤ◌, ◌*◌, ◌+ℤ◌, ◌+◌, ◌/◌}
use Rattle.std.proofs.Common.{◌<◌, ◌^◌, ◌∙◌, ◌≡◌, ◌≤◌}
use Rattle.std.specs.Int.{IsGcd, ◌∣◌, w128}
use Rattle.std.proofs.lemmas.Int.{to_z-of_z, to_z_pos}
use Rattle.std.proofs.lemmas.Nat.Gcd.{le_of_dvd}
use Rattle.std.proofs.Math.Nat.{div-add-mod, mod-lt, dvd-mul_right, mul-div_cancel'}
use Rattle.std.proofs.Math.IntN.{*ℤ_comm}
use Rattle.wide_num.proofs.Ints.{lin, mul-add, mul_assoc}
use Rattle.print_grammar.specs.Fractions.{IsFraction}

some-divisor : (g d b : ℕ) → 0 < d → d ≡ g * b → (0 < g) × (0 < b)
some-divisor zero d b some e = absurd (omega arith)
some-divisor (suc g) d zero some e = absurd (omega arith)
some-divisor (suc g) d (suc b) some e = (omega arith, omega arith)

-- a greatest common divisor of a number above 0 is above 0
pub divisor-above : (r d g : ℕ) → 0 < d → IsGcd r d g → 0 < g
divisor-above r d g some is = (some-divisor g d (d / g) some (sym (mul-div_cancel' g is.1))).0

-- the divisor that the program finds
pub gcd-of : (n d : ℕ) (z : ℤ) → 0 < d → d < 2 ^ 120 → FitsSigned w128 z → IsGcd (unsigned_abs (to_z w128 (n % d))) (unsigned_abs (to_z w128 d))
    (unsigned_abs z)
    → IsGcd (n % d) d (unsigned_abs (to_z w128 (of_z w128 z)))
gcd-of n d z some small fits is =
    let rest : unsigned_abs (to_z w128 (n % d)) ≡ n % d = ap unsigned_abs (to_z_pos w128 (n % d) (omega (arith, mod-lt n some))) in
    let whole : unsigned_abs (to_z w128 d) ≡ d = ap unsigned_abs (to_z_pos w128 d (omega arith)) in
    let same : unsigned_abs z ≡ unsigned_abs (to_z w128 (of_z w128 z)) = ap unsigned_abs (sym (to_z-of_z w128 z fits)) in
    subst (λ (r : ℕ). IsGcd r d (unsigned_abs (to_z w128 (of_z w128 z)))) rest
    (subst (λ (x : ℕ). IsGcd (unsigned_abs (to_z w128 (n % d))) x (unsigned_abs (to_z w128 (of_z w128 z)))) whole
    (subst (λ (g : ℕ). IsGcd (unsigned_abs (to_z w128 (n % d))) (unsigned_abs (to_z w128 d)) g) same is))

smaller : (g a b : ℕ) → g * a < g * b → a < b
smaller g a b h = grind arith

-- a divisor of both quotients is 1
only-one : (g k b c : ℕ) → 0 < g → 0 < b → b ≡ k * c → g * k ≤ g → k ≡ 1
only-one g zero b c some full e h = absurd (omega arith)
only-one g (suc zero) b c some full e h = refl
only-one (suc g) (suc (suc k)) b c some full e h = absurd (omega arith)
only-one zero (suc (suc k)) b c some full e h = absurd (omega arith)

whole-and_rest : (n d q r g a b : ℕ) → d * q + r ≡ n → r ≡ g * a → d ≡ g * b → n * b ≡ d * (q * b + a)
whole-and_rest n d q r g a b e f h =
    let one : r * b ≡ d * a = ap (λ (x : ℕ). x * b) f ∙ turned g a b ∙ ap (λ (x : ℕ). x * a) (sym h) in
    ap (λ (x : ℕ). x * b) (sym e) ∙ omega (arith, one)
  where
    turned : (g a b : ℕ) → (g * a) * b ≡ (g * b) * a
    turned g a b = omega arith

-- whole part, rest and denominator, the last two over their greatest common divisor, are in lowest terms
pub lowest-terms : (n d g : ℕ) → 0 < d → IsGcd (n % d) d g → IsFraction (pos n) (pos d) (n / d) (n % d / g) (d / g)
lowest-terms n d g some is =
    let rest : n % d ≡ g * (n % d / g) = sym (mul-div_cancel' g is.0) in
    let whole : d ≡ g * (d / g) = sym (mul-div_cancel' g is.1) in
    let above = some-divisor g d (d / g) some whole in
    let below : n % d < d = mod-lt n some in
    record {
      value = ap pos (whole-and_rest n d (n / d) (n % d) g (n % d / g) (d / g) (div-add-mod n d) rest whole);
      proper = smaller g (n % d / g) (d / g) (omega (arith, rest, whole, below));
      lowest = λ k a b e f.
          let into-rest : (g * k) ∣ (n % d) = subst (λ (x : ℕ). (g * k) ∣ x) (grouped g k a ∙ ap (λ (x : ℕ). g * x) (sym e) ∙ sym rest)
          (dvd-mul_right (g * k) a) in
          let into-whole : (g * k) ∣ d = subst (λ (x : ℕ). (g * k) ∣ x) (grouped g k b ∙ ap (λ (x : ℕ). g * x) (sym f) ∙ sym whole) (dvd-mul_right (g * k) b) in
          only-one g k (d / g) b above.0 above.1 f (le_of_dvd above.0 (is.2 (g * k) into-rest into-whole));
    }
  where
    grouped : (g k a : ℕ) → g * k * a ≡ g * (k * a)
    grouped g k a = omega arith

-- a fraction that is greater by a whole number has just a greater whole part
pub greater : (n d : ℤ) (whole rest parts more : ℕ) → IsFraction n d whole rest parts → IsFraction (n +ℤ (d *ℤ pos more)) d (whole + more) rest parts
greater n d whole rest parts more f =
    let split : pos ((whole + more) * parts + rest) ≡ pos (whole * parts + rest) +ℤ pos (more * parts) = ap pos (omega arith) in
    record {
      value =
          *ℤ_comm (n +ℤ (d *ℤ pos more)) (pos parts)
          ∙ mul-add (pos parts) n (d *ℤ pos more)
          ∙ omega (
            arith,
            lin,
            *ℤ_comm (pos parts) n,
            f.value,
            *ℤ_comm (pos parts) (d *ℤ pos more),
            mul_assoc d (pos more) (pos parts),
            ap (λ (x : ℤ). d *ℤ x) split,
            mul-add d (pos (whole * parts + rest)) (pos (more * parts)),
          );
      proper = f.proper;
      lowest = f.lowest;
    }
