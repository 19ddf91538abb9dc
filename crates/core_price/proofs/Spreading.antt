-- A number for each bidder from one for each winner, bidder by bidder.
use Rattle.std.specs.Prelude.{◌≡◌, ◌≢◌, ℕ, zero, suc, ◌+◌, ◌<◌, List, [], ◌∷◌, ◌++◌, length, drop, get_or, ℤ, pos, refl}
use Rattle.std.proofs.Common.{sym, ◌∙◌, ap, arith, add-one, append_assoc, drop-cons}
use Rattle.wide_num.specs.Sums.{nth}
use Rattle.core_laws.specs.Winners.{for_bidders, winners_in}

-- the list has the numbers of the first k bidders, of which w win
pub record IsSpread (z : List ℕ) (at list : List ℤ) (k w : ℕ) : Type 0 where
  pub made : list ++ for_bidders (drop k z) (drop w at) ≡ for_bidders z at
  pub left : length (drop w at) ≡ winners_in (drop k z)

-- a loser gets a 0
pub spread-loser : (z : List ℕ) (at list : List ℤ) (k w : ℕ) → IsSpread z at list k w → k < length z → get_or z k 0 ≡ 0
    → IsSpread z at (list ++ pos 0 ∷ []) (k + 1) w
spread-loser z at list k w far lt loses =
    let e : drop k z ≡ 0 ∷ drop (k + 1) z = rw (add-one, drop-cons z k 0, loses) refl in
    record {
      made = append_assoc list (pos 0 ∷ []) (for_bidders (drop (k + 1) z) (drop w at)) ∙ (rw e at far.made);
      left = rw e at far.left;
    }

-- a winner gets the next number
pub spread-winner : (z : List ℕ) (at list : List ℤ) (k w : ℕ) → IsSpread z at list k w → k < length z → get_or z k 0 ≢ 0
    → IsSpread z at (list ++ nth at w ∷ []) (k + 1) (w + 1)
spread-winner z at list k w far lt wins = by (get_or z k 0) wins (drop k z) (rw (add-one, drop-cons z k 0) refl) far.made far.left
  where
    take-one : (ys : List ℤ) (w : ℕ) → 0 < length (drop w ys) → drop w ys ≡ nth ys w ∷ drop (w + 1) ys
    take-one [] zero h = absurd (omega arith)
    take-one [] (suc w) h = absurd (omega arith)
    take-one (y ∷ ys) zero h = refl
    take-one (y ∷ ys) (suc w) h = let a : suc w + 1 ≡ suc (w + 1) = omega arith in rw a (take-one ys w h)

    by : (n : ℕ) → n ≢ 0 → (rest : List ℕ) → rest ≡ n ∷ drop (k + 1) z → list ++ for_bidders rest (drop w at) ≡ for_bidders z at → length
        (drop w at) ≡ winners_in rest → IsSpread z at (list ++ nth at w ∷ []) (k + 1) (w + 1)
    by zero d rest e made left = absurd (d refl)
    by (suc n) d rest e made left =
        let l : length (drop w at) ≡ suc (winners_in (drop (k + 1) z)) = left ∙ ap winners_in e in
        let t = take-one at w (omega (arith, l)) in
        let m : list ++ for_bidders (suc n ∷ drop (k + 1) z) (drop w at) ≡ for_bidders z at = ap (λ r. list ++ for_bidders r (drop w at)) (sym e) ∙ made in
        record {
          made = append_assoc list (nth at w ∷ []) (for_bidders (drop (k + 1) z) (drop (w + 1) at)) ∙ ap (λ r. list ++ for_bidders (suc n ∷ drop (k + 1) z) r)
              (sym t) ∙ m;
          left = let a = ap length t in omega (arith, a, l);
        }

-- a winner that is left has a number
pub spread-inside : (z : List ℕ) (at list : List ℤ) (k w : ℕ) → IsSpread z at list k w → k < length z → get_or z k 0 ≢ 0 → w < length at
spread-inside z at list k w far lt wins = by (get_or z k 0) wins (drop k z) (rw (add-one, drop-cons z k 0) refl) far.left
  where
    inside : (ys : List ℤ) (w : ℕ) → 0 < length (drop w ys) → w < length ys
    inside [] zero h = absurd (omega arith)
    inside [] (suc w) h = absurd (omega arith)
    inside (y ∷ ys) zero h = omega arith
    inside (y ∷ ys) (suc w) h = let a = inside ys w h in omega arith

    by : (n : ℕ) → n ≢ 0 → (rest : List ℕ) → rest ≡ n ∷ drop (k + 1) z → length (drop w at) ≡ winners_in rest → w < length at
    by zero d rest e left = absurd (d refl)
    by (suc n) d rest e left = let l : length (drop w at) ≡ suc (winners_in (drop (k + 1) z)) = left ∙ ap winners_in e in inside at w (omega (arith, l))
