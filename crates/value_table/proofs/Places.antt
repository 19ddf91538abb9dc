-- A loop that rewrites each element by its place and what was there.
use Rattle.std.proofs.Common.{◌≡◌, ◌≢◌, ◌∙◌, ◌<◌, ◌≤◌, ◌+◌, ℕ, ap, arith, get_or, set, length, List, ℤ, pos, get_or-set_other, get_or-set_same, below_more}
use Rattle.std.proofs.lemmas.List.{ext_get_or}

module _ (f : ℕ → ℤ → ℤ) (line initial : List ℤ) (p : ℕ) (x : ℤ) (inside : p < length line)
    (rest : (s : ℕ) → p ≤ s → get_or line s (pos 0) ≡ get_or initial s (pos 0)) where
  -- when the element at p is rewritten by the rule, the first p + 1 are done
  pub done-more : ((s : ℕ) → s < p → get_or line s (pos 0) ≡ f s (get_or initial s (pos 0))) → x ≡ f p (get_or line p (pos 0)) → (s : ℕ) → s < p + 1
      → get_or (set line p x) s (pos 0) ≡ f s (get_or initial s (pos 0))
  done-more done is = below_more (λ s. get_or (set line p x) s (pos 0) ≡ f s (get_or initial s (pos 0))) p
      (λ s h. let other : s ≢ p = omega arith in rw get_or-set_other (done s h))
      (rw get_or-set_same (is ∙ ap (f p) (rest p (omega arith))))

  -- and those after p are as at first
  pub rest-more : (s : ℕ) → p + 1 ≤ s → get_or (set line p x) s (pos 0) ≡ get_or initial s (pos 0)
  rest-more s h = let other : s ≢ p = omega arith in rw get_or-set_other (rest s (omega arith))

  -- if the element at p is already what the rule makes of it, the first p + 1 are done
  pub done-kept : ((s : ℕ) → s < p → get_or line s (pos 0) ≡ f s (get_or initial s (pos 0))) → get_or line p (pos 0) ≡ f p (get_or line p (pos 0)) → (s : ℕ)
      → s < p + 1 → get_or line s (pos 0) ≡ f s (get_or initial s (pos 0))
  done-kept done is = below_more (λ s. get_or line s (pos 0) ≡ f s (get_or initial s (pos 0))) p done (is ∙ ap (f p) (rest p (omega arith)))

  -- and those after p are as at first
  pub rest-kept : (s : ℕ) → p + 1 ≤ s → get_or line s (pos 0) ≡ get_or initial s (pos 0)
  rest-kept s h = rest s (omega arith)

-- A loop that copies a list.
pub copied-more : (xs ys : List ℤ) (p : ℕ) (x : ℤ) → p < length xs → ((s : ℕ) → s < p → get_or xs s (pos 0) ≡ get_or ys s (pos 0)) → x ≡ get_or ys p (pos 0)
    → (s : ℕ) → s < p + 1 → get_or (set xs p x) s (pos 0) ≡ get_or ys s (pos 0)
copied-more xs ys p x inside done is = below_more (λ s. get_or (set xs p x) s (pos 0) ≡ get_or ys s (pos 0)) p
    (λ s h. let other : s ≢ p = omega arith in rw get_or-set_other (done s h))
    (rw get_or-set_same is)

-- lists of the same length that agree in all their elements are the same
pub copied-all : (xs ys : List ℤ) (n : ℕ) → length xs ≡ length ys → length ys ≤ n → ((s : ℕ) → s < n → get_or xs s (pos 0) ≡ get_or ys s (pos 0)) → xs ≡ ys
copied-all xs ys n places all done = ext_get_or (pos 0) xs ys places (λ s h. done s (omega arith))
