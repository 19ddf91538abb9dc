-- Choices by value, and by the order of ties if values are equal.
use Rattle.std.specs.Prelude.{◌≡◌, ℕ, zero, suc, ◌<◌, Bool, true, false, IsTrue, List, [], ◌∷◌, length, get_or, set, ℤ, ◌≤ℤ◌, ◌<ℤ◌}
use Rattle.std.proofs.Common.{inl, inr, sym, ◌∙◌, arith}
use Rattle.std.proofs.lemmas.Bool.{false≢true}
use Rattle.std.proofs.lemmas.Int.{ints}
use Rattle.auction_model.specs.Market.{is_earlier, is_number_before}
use Rattle.auction_model.specs.Greatest.{IsFirstGreatest}
use Rattle.auction_model.proofs.OrderLaws.{before-greater, before-none, before-says, before-self, earlier-cases, earlier-not_both, earlier-number}
use Rattle.auction_model.proofs.OrderLaws.{earlier-rest, earlier-says}
use Rattle.slot_places.specs.Steps.{IsBefore}

-- no choice comes before itself
pub earlier-self : (c : List ℕ) → IsTrue (is_earlier c c) → ⊥
earlier-self c t = earlier-not_both c c t t

number-trans : (h i j : ℕ) → IsTrue (is_number_before h i) → IsTrue (is_number_before i j) → IsTrue (is_number_before h j)
number-trans zero i j t u = let p = before-says 0 i t in absurd (omega (arith, p.0))
number-trans (suc h) i zero t u = before-none h
number-trans (suc h) i (suc j) t u =
    let p = before-says (suc h) i t in
    let q = before-says i (suc j) u in
    elim p.1 [
      | inl none ↦ absurd (omega (arith, none, q.0))
      | inr low ↦ elim q.1 [ inl none ↦ absurd (omega (arith, none)) | inr high ↦ before-greater h j (omega (arith, low, high)) ]
    ]

-- of three choices, each before the next, the first comes before the last
pub earlier-trans : (c d e : List ℕ) → IsTrue (is_earlier c d) → IsTrue (is_earlier d e) → IsTrue (is_earlier c e)
earlier-trans [] d e t u = absurd (false≢true t)
earlier-trans (h ∷ c) [] e t u = absurd (false≢true t)
earlier-trans (h ∷ c) (i ∷ d) [] t u = absurd (false≢true u)
earlier-trans (h ∷ c) (i ∷ d) (j ∷ e) t u =
    elim (earlier-says h i c d t) [
      | inl before ↦
          elim (earlier-says i j d e u) [
            | inl next ↦ earlier-number h j c e (number-trans h i j before next)
            | inr same ↦ earlier-number h j c e (rw (← same.0) before)
          ]
      | inr same ↦
          elim (earlier-says i j d e u) [
            | inl next ↦ earlier-number h j c e (rw same.0 next)
            | inr again ↦ rw (same.0, again.0) (earlier-rest j c e (earlier-trans c d e same.1 again.1))
          ]
    ]

module _ (value : List ℕ → ℤ) where
  -- a choice is no worse than itself
  pub before-same : (c : List ℕ) → IsBefore value c c
  before-same c = record { most = omega (arith, ints); first = λ t. absurd (earlier-self c t) }

  -- by a greater value, and by the order of ties
  pub before-by_value : (c d : List ℕ) → value d <ℤ value c → IsBefore value c d
  before-by_value c d less = record { most = omega (arith, ints, less); first = λ t. less }

  -- a choice that counts no less and comes first in the order of ties is no worse
  pub before-by_ties : (c d : List ℕ) → value d ≤ℤ value c → IsTrue (is_earlier c d) → IsBefore value c d
  before-by_ties c d most t = record { most = most; first = λ u. absurd (earlier-not_both c d t u) }

  -- the same, by the sums at hand
  pub before-by_sums : (c d : List ℕ) (x y : ℤ) → x ≡ value c → y ≡ value d → y <ℤ x → IsBefore value c d
  before-by_sums c d x y p q less = before-by_value c d (let low : value d <ℤ value c = omega (arith, ints, p, q, less) in low)

  -- a choice whose sum is no smaller and that comes first in the order of ties is no worse
  pub before-by_order : (c d : List ℕ) (x y : ℤ) → x ≡ value c → y ≡ value d → y ≤ℤ x → is_earlier c d ≡ true → IsBefore value c d
  before-by_order c d x y p q most t = before-by_ties c d (let low : value d ≤ℤ value c = omega (arith, ints, p, q, most) in low) t

  -- a choice whose sum is no smaller and before which the other doesn't come is no worse
  pub before-by_rest : (c d : List ℕ) (x y : ℤ) → x ≡ value c → y ≡ value d → y ≤ℤ x → is_earlier d c ≡ false → IsBefore value c d
  before-by_rest c d x y p q most f = record {
    most = (let low : value d ≤ℤ value c = omega (arith, ints, p, q, most) in low);
    first =
        λ t. absurd (false≢true (sym f ∙ t));
  }

  -- of three choices of one length, each no worse than the next, the first is no worse than the last
  pub before-trans : (c d e : List ℕ) → length c ≡ length d → length d ≡ length e → IsBefore value c d → IsBefore value d e → IsBefore value c e
  before-trans c d e one two p q =
      let a : value d ≤ℤ value c = p.most in
      let b : value e ≤ℤ value d = q.most in
      record { most = omega (arith, ints, a, b); first = first a b }
    where
      first : value d ≤ℤ value c → value e ≤ℤ value d → IsTrue (is_earlier e c) → value e <ℤ value c
      first a b t =
          elim (earlier-cases d c (sym one)) [
            | inl same ↦ let low : value e <ℤ value d = q.first (rw same t) in omega (arith, ints, a, low)
            | inr (inl before) ↦ let low : value d <ℤ value c = p.first before in omega (arith, ints, b, low)
            | inr (inr after) ↦ let low : value e <ℤ value d = q.first (earlier-trans e c d t after) in omega (arith, ints, a, low)
          ]

  -- the first of the greatest is no worse than all that pass
  pub first-of : (passes : List ℕ → Bool) (c : List ℕ) → IsTrue (passes c) → ((d : List ℕ) → IsTrue (passes d) → IsBefore value c d)
      → IsFirstGreatest passes value c
  first-of passes c passed all = record { passed = passed; greatest = λ d t. (all d t).most; first = λ d t earlier. (all d t).first earlier }

-- two choices with the same number at a place stand as they do with another number there
pub earlier-set : (c d : List ℕ) (k n : ℕ) → k < length c → length c ≡ length d → get_or c k 0 ≡ get_or d k 0 → IsTrue (is_earlier (set d k n) (set c k n))
    → IsTrue (is_earlier d c)
earlier-set [] d k n inside e same t = absurd (omega (arith, inside))
earlier-set (i ∷ c) [] k n inside e same t = absurd (omega (arith, e))
earlier-set (i ∷ c) (j ∷ d) zero n inside e same t =
    elim (earlier-says n n d c t) [
      | inl before ↦ absurd (before-self n before)
      | inr rest ↦ rw same (earlier-rest j d c rest.1)
    ]
earlier-set (i ∷ c) (j ∷ d) (suc k) n inside e same t =
    elim (earlier-says j i (set d k n) (set c k n) t) [
      | inl before ↦ earlier-number j i d c before
      | inr rest ↦ rw rest.0 (earlier-rest i d c (earlier-set c d k n (omega (arith, inside)) (omega (arith, e)) same rest.1))
    ]
