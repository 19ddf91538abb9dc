-- The order of ties, number by number.
use Rattle.std.specs.Prelude.{◌≡◌, ℕ, suc, ◌+◌, ◌<◌, Bool, true, false, ◌&&◌, ◌||◌, ◌==◌, List, [], length, drop, get_or, refl}
use Rattle.std.proofs.Common.{◌∙◌, ap, arith, add-one, drop-cons}
use Rattle.std.proofs.lemmas.Bool.{eq-eqb, ne_eqb, false_from_ne_true}
use Rattle.std.proofs.lemmas.List.{drop_all}
use Rattle.auction_model.specs.Market.{is_earlier, is_number_before}
use Rattle.auction_model.proofs.OrderLaws.{before-self}

false_or_true : (x y r : Bool) → x ≡ false → y ≡ true → x || (y && r) ≡ r
false_or_true x y r p q = rw (p, q) refl

or-false : (x y r : Bool) → y ≡ false → x || (y && r) ≡ x
or-false true y r p = refl
or-false false y r p = rw p refl

same-number : (i j : ℕ) (r : Bool) → i ≡ j → is_number_before i j || ((i == j) && r) ≡ r
same-number i j r e = false_or_true (is_number_before i j) (i == j) r (false_from_ne_true (is_number_before i j) (λ t. before-self j (rw e at t)))
    (eq-eqb i j e)

module _ (c d : List ℕ) (k : ℕ) (inside : k < length c) (within : k < length d) where
  -- if two choices have the same number at a place, the numbers after it decide which comes first
  pub earlier-goes_on : get_or c k 0 ≡ get_or d k 0 → is_earlier (drop k c) (drop k d) ≡ is_earlier (drop (k + 1) c) (drop (k + 1) d)
  earlier-goes_on e = rw (add-one, drop-cons c k 0, drop-cons d k 0) (same-number (get_or c k 0) (get_or d k 0)
      (is_earlier (drop (suc k) c) (drop (suc k) d)) e)

  -- where two choices differ at a place, their numbers there decide which comes first
  pub earlier-ends : (get_or c k 0 ≡ get_or d k 0 → ⊥) → is_earlier (drop k c) (drop k d) ≡ is_number_before (get_or c k 0) (get_or d k 0)
  earlier-ends other =
      rw (drop-cons c k 0, drop-cons d k 0) (or-false (is_number_before (get_or c k 0) (get_or d k 0)) (get_or c k 0 == get_or d k 0)
      (is_earlier (drop (suc k) c) (drop (suc k) d)) (ne_eqb (get_or c k 0) (get_or d k 0) other))

-- after the last number neither choice comes first
pub earlier-none : (c d : List ℕ) (k : ℕ) → length c ≡ k → length d ≡ k → is_earlier (drop k c) (drop k d) ≡ false
earlier-none c d k e f = let p : drop k c ≡ [] = drop_all k c (omega (arith, e)) in
    let q : drop k d ≡ [] = drop_all k d (omega (arith, f)) in
    ap (λ x. is_earlier x (drop k d)) p ∙ ap (λ x. is_earlier [] x) q
