-- A list that grows by one number a turn, with a fact on the number at each place.
use Rattle.std.proofs.Common.{◌≡◌, ℕ, ◌+◌, ◌<◌, ℤ, pos, length, List, [], ◌∷◌, ◌++◌, arith, below_more, ◌∙◌, sym, ap, subst}
use Rattle.std.proofs.lemmas.List.{length_push, get_or_push, get_or_append_left}
use Rattle.wide_num.specs.Sums.{nth}

-- the number at the end of a list with x pushed is x
pub nth-push : (xs : List ℤ) (x : ℤ) (i : ℕ) → length xs ≡ i → nth (xs ++ x ∷ []) i ≡ x
nth-push xs x i h = get_or_push xs x (pos 0) i h

-- the numbers before one that is pushed stay as they were
pub nth-front : (xs : List ℤ) (x : ℤ) (k : ℕ) → k < length xs → nth (xs ++ x ∷ []) k ≡ nth xs k
nth-front xs x k h = get_or_append_left xs (x ∷ []) (pos 0) k h

-- an invariant on the items below i, one step on
pub grown : (P : ℕ → ℤ → Type 0) (xs ys : List ℤ) (x : ℤ) (i : ℕ) → ys ≡ xs ++ x ∷ [] → length xs ≡ i → ((k : ℕ) → k < i → P k (nth xs k)) → P i x → (k : ℕ)
    → k < i + 1 → P k (nth ys k)
grown P xs ys x i e l all here =
    below_more _ i
    (λ k h. subst (P k) (sym (ap (λ (zs : List ℤ). nth zs k) e ∙ nth-front xs x k (omega (arith, l, h)))) (all k h))
    (subst (P i) (sym (ap (λ (zs : List ℤ). nth zs i) e ∙ nth-push xs x i l)) here)

-- a list of i numbers with one more pushed has i + 1 numbers
pub grown_length : (xs ys : List ℤ) (x : ℤ) (i : ℕ) → ys ≡ xs ++ x ∷ [] → length xs ≡ i → length ys ≡ i + 1
grown_length xs ys x i e l = ap length e ∙ length_push xs x ∙ ap (λ (n : ℕ). n + 1) l
