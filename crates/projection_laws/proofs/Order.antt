-- Products and the order of ℤ.
use Rattle.std.proofs.Common.{◌≡◌, zero, suc, arith, refl, ◌⊎◌, inl, inr}
use Rattle.std.specs.Prelude.{ℤ, pos, negsuc, ◌*ℤ◌, ◌≤ℤ◌, ◌<ℤ◌}
use Rattle.std.proofs.lemmas.Int.{ints}

-- the product of two numbers that aren't negative isn't negative
pub mul_nonneg : (a b : ℤ) → pos 0 ≤ℤ a → pos 0 ≤ℤ b → pos 0 ≤ℤ (a *ℤ b)
mul_nonneg (pos a) (pos b) h k = omega (arith, ints)
mul_nonneg (pos a) (negsuc b) h k = absurd (omega (arith, ints))
mul_nonneg (negsuc a) b h k = absurd (omega (arith, ints))

-- the product of two positive numbers is positive
pub mul_positive : (a b : ℤ) → pos 0 <ℤ a → pos 0 <ℤ b → pos 0 <ℤ (a *ℤ b)
mul_positive (pos zero) b h k = absurd (omega (arith, ints))
mul_positive (pos (suc a)) (pos zero) h k = absurd (omega (arith, ints))
mul_positive (pos (suc a)) (pos (suc b)) h k = omega (arith, ints)
mul_positive (pos (suc a)) (negsuc b) h k = absurd (omega (arith, ints))
mul_positive (negsuc a) b h k = absurd (omega (arith, ints))

-- no square is negative
pub square_nonneg : (a : ℤ) → pos 0 ≤ℤ (a *ℤ a)
square_nonneg (pos a) = omega (arith, ints)
square_nonneg (negsuc a) = omega (arith, ints)

-- the square of a number other than 0 is positive
pub square_positive : (a : ℤ) → ¬ (a ≡ pos 0) → pos 0 <ℤ (a *ℤ a)
square_positive (pos zero) h = absurd (h refl)
square_positive (pos (suc a)) h = omega (arith, ints)
square_positive (negsuc a) h = omega (arith, ints)

-- a number isn't negative if a positive multiple of it isn't
pub cancel_nonneg : (d y : ℤ) → pos 0 <ℤ d → pos 0 ≤ℤ (d *ℤ y) → pos 0 ≤ℤ y
cancel_nonneg (pos zero) y h k = absurd (omega (arith, ints))
cancel_nonneg (negsuc d) y h k = absurd (omega (arith, ints))
cancel_nonneg (pos (suc d)) (pos y) h k = omega (arith, ints)
cancel_nonneg (pos (suc d)) (negsuc y) h k = absurd (omega (arith, ints))

-- a number is 0 or it isn't
pub zero_or : (a : ℤ) → (a ≡ pos 0) ⊎ ¬ (a ≡ pos 0)
zero_or (pos zero) = inl refl
zero_or (pos (suc n)) = inr (λ e. cc)
zero_or (negsuc n) = inr (λ e. cc)
