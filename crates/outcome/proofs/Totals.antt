-- Sums of payments, none of which is below 0.
use Rattle.std.proofs.Common.{◌≡◌, ℕ, zero, suc, ◌+◌, ◌<◌, ◌≤◌, ◌^◌, ℤ, pos, ◌+ℤ◌, ◌≤ℤ◌, ◌<ℤ◌, FitsSigned, to_z, of_z, inl, inr, ap, arith}
use Rattle.std.specs.Int.{w128}
use Rattle.std.proofs.lemmas.Bool.{cases_lt}
use Rattle.std.proofs.lemmas.Int.{ints}
use Rattle.projection_laws.proofs.Sums.{total-nonneg}
use Rattle.wide_num.specs.Sums.{total}

-- a sum of fewer is at most the sum
pub total-up : (n k : ℕ) (f : ℕ → ℤ) → k ≤ n → ((i : ℕ) → i < n → pos 0 ≤ℤ f i) → total k f ≤ℤ total n f
total-up zero zero f le h = omega (arith, ints)
total-up zero (suc k) f le h = absurd (omega arith)
total-up (suc n) k f le h =
    elim (cases_lt k (suc n)) [
      | inl lt ↦ omega (arith, ints, total-up n k f (omega arith) (λ i l. h i (omega arith)), h n (omega arith))
      | inr past ↦ (let e : k ≡ suc n = omega arith in omega (arith, ints, ap (λ (x : ℕ). total x f) e))
    ]

module _ (n k : ℕ) (f : ℕ → ℤ) (s : ℤ) (inside : k < n) (least : (i : ℕ) → i < n → pos 0 ≤ℤ f i) (small : total n f <ℤ pos (2 ^ 120))
    (so-far : s ≡ total k f) where
  -- the next sum fits, too
  pub next-fits : FitsSigned w128 (s +ℤ to_z w128 (of_z w128 (f k)))
  next-fits =
      let before : pos 0 ≤ℤ total k f = total-nonneg k f (λ i l. least i (omega arith)) in
      let own : pos 0 ≤ℤ f k = least k inside in
      let high : total (suc k) f ≤ℤ total n f = total-up n (suc k) f (omega arith) least in
      omega (arith, ints)

  -- in 128 bits it is the sum of one more
  pub next-is : to_z w128 (of_z w128 (s +ℤ to_z w128 (of_z w128 (f k)))) ≡ total (k + 1) f
  next-is =
      let before : pos 0 ≤ℤ total k f = total-nonneg k f (λ i l. least i (omega arith)) in
      let own : pos 0 ≤ℤ f k = least k inside in
      let high : total (suc k) f ≤ℤ total n f = total-up n (suc k) f (omega arith) least in
      let up : k + 1 ≡ suc k = omega arith in
      let next : total (k + 1) f ≡ total k f +ℤ f k = ap (λ (x : ℕ). total x f) up in
      omega (arith, ints)
