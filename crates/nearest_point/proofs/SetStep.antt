-- One number of a list grows by the next multiplier.
use Rattle.std.proofs.Common.{Bool, List, [], ap, arith, eqb, false, inl, inr, length, refl, suc, sym, true, unsigned_abs, zero, ℕ, ◌*◌, ◌+◌, ◌<◌}
use Rattle.std.proofs.Common.{◌^◌, ◌∙◌, ◌∷◌, ◌≡◌, ◌≢◌, ◌≤◌, ◌⊎◌}
use Rattle.std.specs.Prelude.{ℤ, pos, ◌+ℤ◌, slice_set, slice_index_or}
use Rattle.std.proofs.lemmas.Int.{ints}
use Rattle.std.proofs.lemmas.List.{get_or-set_same, get_or-set_other, length-set}
use Rattle.std.proofs.lemmas.Bool.Decides.{eqb_tells}
use Rattle.wide_num.specs.Sums.{nth}
use Rattle.nearest_point.specs.Numbers.{when, spread}
use Rattle.nearest_point.proofs.Sizes.{total_more}

-- with the next multiplier added at its row, the list has what each row has of one multiplier more
pub numbers_step : (list : List ℤ) (count n r : ℕ) (rows : ℕ → ℕ) (l : ℕ → ℤ) (v : ℤ) → length list ≡ count → rows n ≡ r → r < count → v ≡ nth list r +ℤ l n
    → ((q : ℕ) → q < count → nth list q ≡ spread n rows l q) → (q : ℕ) → q < count → nth (slice_set list r v) q ≡ spread (n + 1) rows l q
numbers_step list count n r rows l v len e lt ve h q lq = go (eqb_tells r q) ∙ sym (total_more n (λ i. when (eqb (rows i) q) (l i)))
  where
    go : ((eqb r q ≡ true) × (r ≡ q)) ⊎ ((eqb r q ≡ false) × (r ≢ q)) → nth (slice_set list r v) q ≡ spread n rows l q +ℤ when (eqb (rows n) q) (l n)
    go (inl (t, d)) =
        ap (nth (slice_set list r v)) (sym d) ∙ get_or-set_same list r v (pos 0) (omega arith) ∙ ve ∙ ap (λ (k : ℕ). nth list k +ℤ l n) d
        ∙ ap (λ (z : ℤ). z +ℤ l n) (h q lq)
        ∙ ap (λ (b : Bool). spread n rows l q +ℤ when b (l n)) (sym (ap (λ (k : ℕ). eqb k q) e ∙ t))
    go (inr (t, d)) =
        get_or-set_other list r q v (pos 0) (λ x. d (sym x)) ∙ h q lq
        ∙ (let z : when (eqb (rows n) q) (l n) ≡ pos 0 = ap (λ (b : Bool). when b (l n)) (ap (λ (k : ℕ). eqb k q) e ∙ t) in omega (arith, ints))

-- sizes of at most n times 2^106 become at most n + 1 times if a number below 2^106 is added at a place
pub small_step : (list : List ℤ) (n r : ℕ) (v x : ℤ) → r < length list → v ≡ nth list r +ℤ x → unsigned_abs x < 2 ^ 106
    → ((q : ℕ) → unsigned_abs (nth list q) ≤ n * 2 ^ 106) → (q : ℕ) → unsigned_abs (nth (slice_set list r v) q) ≤ (n + 1) * 2 ^ 106
small_step list n r v x lt e w h q = go (eqb_tells r q)
  where
    go : ((eqb r q ≡ true) × (r ≡ q)) ⊎ ((eqb r q ≡ false) × (r ≢ q)) → unsigned_abs (nth (slice_set list r v) q) ≤ (n + 1) * 2 ^ 106
    go (inl (t, d)) =
        let a : nth (slice_set list r v) q ≡ v = ap (nth (slice_set list r v)) (sym d) ∙ get_or-set_same list r v (pos 0) lt in
        let b = h r in omega (arith, ints)
    go (inr (t, d)) =
        let a : nth (slice_set list r v) q ≡ nth list q = get_or-set_other list r q v (pos 0) (λ x. d (sym x)) in
        let b = h q in omega (arith, ints)

-- a list with one number set is as long as before
pub length_step : (list : List ℤ) (r : ℕ) (v : ℤ) → length (slice_set list r v) ≡ length list
length_step list r v = length-set list r v

-- inside a list the number at a place is the same whatever stands for one past the end
pub any_default : (xs : List ℤ) (i : ℕ) (d e : ℤ) → i < length xs → slice_index_or xs i d ≡ slice_index_or xs i e
any_default [] i d e lt = absurd (omega arith)
any_default (x ∷ xs) zero d e lt = refl
any_default (x ∷ xs) (suc i) d e lt = any_default xs i d e (omega arith)
