-- The entries of a square, listed line by line.
use Rattle.std.proofs.Common.{ℕ, ◌+◌, ◌*◌, ◌/◌, ◌%◌, ◌<◌, ◌≤◌, arith, subst, List}
use Rattle.std.specs.Prelude.{ℤ}
use Rattle.std.proofs.lemmas.Nat.{div-mul-add, mod-mul-add, mul-add-lt}
use Rattle.wide_num.specs.Sums.{nth}

-- what holds of each listed number at its line and column holds at line i and column k of the square
pub entry_at : (n place : ℕ) (xs : List ℤ) (P : ℕ → ℕ → ℤ → Type 0) → ((p : ℕ) → p < place → P (p / n) (p % n) (nth xs p)) → n * n ≤ place
    → (i k : ℕ) → i < n → k < n → P i k (nth xs (i * n + k))
entry_at n place xs P all le i k li lk =
    let lt = mul-add-lt i n k n li lk in
    let h = all (i * n + k) (omega (arith, lt)) in
    let d = div-mul-add i n k lk in
    let m = mod-mul-add i n k lk in
    subst (λ (q : ℕ). P i q (nth xs (i * n + k))) m (subst (λ (q : ℕ). P q ((i * n + k) % n) (nth xs (i * n + k))) d h)
