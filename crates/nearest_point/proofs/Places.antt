-- Where a number is beside another.
use Rattle.std.proofs.Common.{◌≡◌, ℕ, suc, ◌<◌, arith, ◌⊎◌, inl, inr}
use Rattle.std.proofs.lemmas.Bool.{cases_eq}

-- a number below n + 1 is below n or is n
pub lt_or : (k n : ℕ) → k < suc n → (k < n) ⊎ (k ≡ n)
lt_or k n h = elim (cases_eq k n) [ inl e ↦ inr e | inr ne ↦ inl (omega arith) ]
