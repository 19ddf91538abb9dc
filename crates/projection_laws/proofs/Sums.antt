-- Sums of whole numbers and their order.
use Rattle.std.proofs.Common.{◌≡◌, ℕ, zero, suc, ◌<◌, arith, refl, sym, ap, inl, inr}
use Rattle.std.specs.Prelude.{ℤ, pos, ◌*ℤ◌, ◌-ℤ◌, ◌≤ℤ◌}
use Rattle.std.proofs.lemmas.Bool.{cases_eq}
use Rattle.std.proofs.lemmas.Int.{ints}
use Rattle.wide_num.specs.Sums.{total, dot}
use Rattle.wide_num.proofs.Sums.{dot-through}

-- the sum of differences is the difference of the sums
pub total-sub : (n : ℕ) (f g : ℕ → ℤ) → total n (λ i. f i -ℤ g i) ≡ total n f -ℤ total n g
total-sub zero f g = refl
total-sub (suc n) f g = let a = total-sub n f g in omega (arith, ints)

-- a sum of numbers that aren't negative isn't negative
pub total-nonneg : (n : ℕ) (f : ℕ → ℤ) → ((i : ℕ) → i < n → pos 0 ≤ℤ f i) → pos 0 ≤ℤ total n f
total-nonneg zero f h = omega (arith, ints)
total-nonneg (suc n) f h =
    let a : pos 0 ≤ℤ total n f = total-nonneg n f (λ i lt. h i (omega arith)) in
    let b : pos 0 ≤ℤ f n = h n (omega arith) in
    omega (arith, ints)

-- if each term is at most another, so is the sum
pub total-le : (n : ℕ) (f g : ℕ → ℤ) → ((i : ℕ) → i < n → f i ≤ℤ g i) → total n f ≤ℤ total n g
total-le zero f g h = omega (arith, ints)
total-le (suc n) f g h =
    let a : total n f ≤ℤ total n g = total-le n f g (λ i lt. h i (omega arith)) in
    let b : f n ≤ℤ g n = h n (omega arith) in
    omega (arith, ints)

-- a term is at most a sum of terms that are not negative
pub term-le : (n : ℕ) (f : ℕ → ℤ) → ((i : ℕ) → i < n → pos 0 ≤ℤ f i) → (k : ℕ) → k < n → f k ≤ℤ total n f
term-le zero f h k lt = absurd (omega arith)
term-le (suc n) f h k lt =
    let a : pos 0 ≤ℤ total n f = total-nonneg n f (λ i l. h i (omega arith)) in
    let b : pos 0 ≤ℤ f n = h n (omega arith) in
    elim (cases_eq k n) [
      | inl e ↦ (let d : f k ≡ f n = ap f e in omega (arith, ints))
      | inr ne ↦ (let c : f k ≤ℤ total n f = term-le n f (λ i l. h i (omega arith)) k (omega arith) in omega (arith, ints))
    ]

-- the exchange of rows and coordinates: l has a number for each of r rows, y one for each of m coordinates
pub dual : (m r : ℕ) (a : ℕ → ℕ → ℤ) (l y : ℕ → ℤ) → total m (λ j. total r (λ i. l i *ℤ a i j) *ℤ y j) ≡ total r (λ i. l i *ℤ dot m (a i) y)
dual m r a l y = sym (dot-through m r l a y)
