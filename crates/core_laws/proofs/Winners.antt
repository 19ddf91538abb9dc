-- Sums over bidders of lists with a number for each winner.
use Rattle.std.specs.Prelude.{◌≡◌, ℕ, zero, suc, ◌-◌, ◌<◌, true, false, not, List, [], ◌∷◌, length, ℤ, pos, ◌+ℤ◌, ◌-ℤ◌, refl}
use Rattle.std.proofs.Common.{sym, ◌∙◌, ap, arith, ◌⊎◌, inl, inr}
use Rattle.std.proofs.lemmas.Int.{ints}
use Rattle.std.proofs.lemmas.Bool.{cases_lt, ne_eqb}
use Rattle.auction_model.specs.Market.{uses}
use Rattle.auction_model.specs.Prices.{sum_over, everyone}
use Rattle.auction_model.specs.Lowered.{of_bidder}
use Rattle.wide_num.specs.Sums.{nth, total}
use Rattle.wide_num.proofs.Sums.{total-first, total-same}
use Rattle.projection_laws.proofs.Order.{zero_or}
use Rattle.core_laws.specs.Winners.{winners_in, for_bidders, for_winners}
use Rattle.core_laws.proofs.Sums.{over-is}

joined : (a b c d e : ℤ) → a ≡ c +ℤ d → d ≡ e → b ≡ c +ℤ e → a ≡ b
joined a b c d e p q r = omega (arith, ints, p, q, r)

-- a function of two numbers that is 0 if both are
module _ (h : ℤ → ℤ → ℤ) (none : h (pos 0) (pos 0) ≡ pos 0) where
  -- a sum over the winners of two lists is one over the bidders, if losers add 0
  pub zip-sum : (z : List ℕ) (xs vs : List ℤ)
      → total (length z) (λ k. h (nth (for_bidders z xs) k) (nth (for_bidders z vs) k)) ≡ total (winners_in z) (λ i. h (nth xs i) (nth vs i))
  zip-sum [] xs vs = refl
  zip-sum (zero ∷ z) xs vs =
      total-first (length z) (λ k. h (nth (for_bidders (zero ∷ z) xs) k) (nth (for_bidders (zero ∷ z) vs) k))
      ∙ (let r = zip-sum z xs vs in omega (arith, ints, none))
  zip-sum (suc i ∷ z) [] [] = joined _ _ (h (nth [] 0) (nth [] 0)) _ _
      (total-first (length z) (λ k. h (nth (for_bidders (suc i ∷ z) []) k) (nth (for_bidders (suc i ∷ z) []) k))) (zip-sum z [] [])
      (total-first (winners_in z) (λ j. h (nth [] j) (nth [] j)))
  zip-sum (suc i ∷ z) [] (v ∷ vs) = joined _ _ (h (nth [] 0) (nth (v ∷ vs) 0)) _ _
      (total-first (length z) (λ k. h (nth (for_bidders (suc i ∷ z) []) k) (nth (for_bidders (suc i ∷ z) (v ∷ vs)) k))) (zip-sum z [] vs)
      (total-first (winners_in z) (λ j. h (nth [] j) (nth (v ∷ vs) j)))
  zip-sum (suc i ∷ z) (x ∷ xs) [] = joined _ _ (h (nth (x ∷ xs) 0) (nth [] 0)) _ _
      (total-first (length z) (λ k. h (nth (for_bidders (suc i ∷ z) (x ∷ xs)) k) (nth (for_bidders (suc i ∷ z) []) k))) (zip-sum z xs [])
      (total-first (winners_in z) (λ j. h (nth (x ∷ xs) j) (nth [] j)))
  zip-sum (suc i ∷ z) (x ∷ xs) (v ∷ vs) = joined _ _ (h (nth (x ∷ xs) 0) (nth (v ∷ vs) 0)) _ _
      (total-first (length z) (λ k. h (nth (for_bidders (suc i ∷ z) (x ∷ xs)) k) (nth (for_bidders (suc i ∷ z) (v ∷ vs)) k))) (zip-sum z xs vs)
      (total-first (winners_in z) (λ j. h (nth (x ∷ xs) j) (nth (v ∷ vs) j)))

  -- a sum over all bidders of a function of their two numbers
  pub everyone-zip : (z : List ℕ) (xs vs : List ℤ)
      → sum_over everyone (λ j. h (of_bidder (for_bidders z xs) j) (of_bidder (for_bidders z vs) j)) (length z)
      ≡ total (winners_in z) (λ i. h (nth xs i) (nth vs i))
  everyone-zip z xs vs =
      over-is everyone (λ j. h (of_bidder (for_bidders z xs) j) (of_bidder (for_bidders z vs) j)) (length z)
      ∙ total-same (length z) (λ k. h (of_bidder (for_bidders z xs) (suc k)) (of_bidder (for_bidders z vs) (suc k)))
      (λ k. h (nth (for_bidders z xs) k) (nth (for_bidders z vs) k)) (λ k lt. let e : suc k - 1 ≡ k = omega arith in rw e refl)
      ∙ zip-sum z xs vs

-- what all bidders pay is what the winners pay
pub paid-zip : (z : List ℕ) (xs : List ℤ) → sum_over everyone (of_bidder (for_bidders z xs)) (length z) ≡ total (winners_in z) (nth xs)
paid-zip z xs = everyone-zip (λ x v. x) refl z xs xs

-- a list with 0 for losers is the list of its winners
pub there_and_back : (z : List ℕ) (ys : List ℤ) → length ys ≡ length z → ((k : ℕ) → k < length z → uses z (suc k) ≡ false → nth ys k ≡ pos 0)
    → for_bidders z (for_winners z ys) ≡ ys
there_and_back [] [] e h = refl
there_and_back [] (y ∷ ys) e h = absurd (omega arith)
there_and_back (zero ∷ z) [] e h = absurd (omega arith)
there_and_back (zero ∷ z) (y ∷ ys) e h =
    let first : y ≡ pos 0 = h 0 (omega arith) refl in
    rw first (ap (λ t. pos 0 ∷ t) (there_and_back z ys (omega arith) (λ k lt q. h (suc k) (omega arith)
    (let b : suc (suc k) - 1 ≡ suc (suc k - 1) = omega arith in rw b q))))
there_and_back (suc i ∷ z) [] e h = absurd (omega arith)
there_and_back (suc i ∷ z) (y ∷ ys) e h =
    ap (λ t. y ∷ t) (there_and_back z ys (omega arith) (λ k lt q. h (suc k) (omega arith) (let b : suc (suc k) - 1 ≡ suc (suc k - 1) = omega arith in rw b q)))

-- losers have 0
pub loser-zero : (z : List ℕ) (xs : List ℤ) (k : ℕ) → uses z (suc k) ≡ false → nth (for_bidders z xs) k ≡ pos 0
loser-zero [] xs k e = refl
loser-zero (zero ∷ z) xs zero e = refl
loser-zero (zero ∷ z) xs (suc k) e = loser-zero z xs k (let b : suc (suc k) - 1 ≡ suc (suc k - 1) = omega arith in rw b at e)
loser-zero (suc i ∷ z) [] zero e = refl
loser-zero (suc i ∷ z) [] (suc k) e = loser-zero z [] k (let b : suc (suc k) - 1 ≡ suc (suc k - 1) = omega arith in rw b at e)
loser-zero (suc i ∷ z) (x ∷ xs) zero e = absurd (lie (sym (ap not (ne_eqb (suc i) 0 (omega arith))) ∙ e))
  where
    lie : true ≡ false → ⊥
    lie h = cc
loser-zero (suc i ∷ z) (x ∷ xs) (suc k) e = loser-zero z xs k (let b : suc (suc k) - 1 ≡ suc (suc k - 1) = omega arith in rw b at e)

-- a number for each winner makes a list with a number for each bidder
pub all-bidders : (z : List ℕ) (xs : List ℤ) → length (for_bidders z xs) ≡ length z
all-bidders [] xs = refl
all-bidders (zero ∷ z) xs = ap suc (all-bidders z xs)
all-bidders (suc i ∷ z) [] = ap suc (all-bidders z [])
all-bidders (suc i ∷ z) (x ∷ xs) = ap suc (all-bidders z xs)

same_or : (a b : ℤ) → (a ≡ b) ⊎ (a ≡ b → ⊥)
same_or a b = elim (zero_or (a +ℤ (pos 0 -ℤ b))) [ inl e ↦ inl (omega (arith, ints)) | inr e ↦ inr (λ q. e (omega (arith, ints))) ]

-- two lists of numbers that aren't equal differ somewhere
pub apart : (n : ℕ) (f g : ℕ → ℤ) → (((i : ℕ) → i < n → f i ≡ g i) → ⊥) → (i : ℕ) × (i < n) × (f i ≡ g i → ⊥)
apart zero f g h = absurd (h (λ i lt. absurd (omega arith)))
apart (suc n) f g h = by (same_or (f n) (g n)) (λ all. apart n f g all)
  where
    by : (f n ≡ g n) ⊎ (f n ≡ g n → ⊥) → ((((i : ℕ) → i < n → f i ≡ g i) → ⊥) → (i : ℕ) × (i < n) × (f i ≡ g i → ⊥)) → (i : ℕ) × (i < suc n) × (f i ≡ g i → ⊥)
    by (inr d) rec = (n, omega arith, d)
    by (inl e) rec =
        let r = rec (λ all. h (λ i lt. elim (cases_lt i n) [ inl l ↦ all i l | inr past ↦ (let q : i ≡ n = omega arith in ap f q ∙ e ∙ ap g (sym q)) ])) in
        (r.0, omega (arith, r.1), r.2)
