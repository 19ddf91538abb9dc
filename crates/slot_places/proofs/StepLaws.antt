-- One entry of the table over sets from those with one bidder more.
use Rattle.std.specs.Prelude.{Bool, IsTrue, List, [], cond, false, get_or, length, not, pos, refl, set, suc, true, zero, ℕ, ℤ, ◌&&◌, ◌+ℤ◌, ◌+◌, ◌-◌}
use Rattle.std.specs.Prelude.{◌<ℤ◌, ◌<◌, ◌==◌, ◌||◌, ◌∷◌, ◌≡◌, ◌≤ℤ◌, ◌≤◌}
use Rattle.std.proofs.Common.{inl, inr, sym, ◌∙◌, ap, arith, subst}
use Rattle.std.proofs.lemmas.Bool.{and_from, and_parts, cases_Bool, cases_eq, cond-false, eq-eqb, eqb-true, false≢true, not-true, not_from_false}
use Rattle.std.proofs.lemmas.Bool.{or_cases, or_left, or_right}
use Rattle.std.proofs.lemmas.Int.{ints}
use Rattle.std.proofs.lemmas.List.{length-set, get_or-set_same, get_or-set_other, set-get_or}
use Rattle.auction_model.specs.Market.{number_of, sum_after}
use Rattle.auction_model.proofs.ChoiceLaws.{known-length}
use Rattle.slot_places.specs.Steps.{Next, IsBefore}
use Rattle.slot_places.specs.Board.{Board, joined, outside, menu_of, is_known, can_place}
use Rattle.slot_places.specs.SetTable.{is_idle_in, fits_behind, counts_outside, sum_outside, IsSetBest}
use Rattle.slot_places.proofs.SetLaws.{joined-self, joined-other, joined-differs, outside-joined}
use Rattle.slot_places.proofs.PlaceLaws.{next-from, place-other}
use Rattle.slot_places.proofs.MarketLaws.{known-set}
use Rattle.slot_places.proofs.BestLaws.{earlier-set}

-- the parts of fitting after a set
pub record Fits (b : Board) (s : ℕ → Bool) (c : List ℕ) : Type 0 where
  pub known : IsTrue (is_known b c)
  pub idle : IsTrue (is_idle_in s 0 c)
  pub place : IsTrue (can_place b c (outside s b.bidders) s)

-- a choice that fits after a set is known, idle in the set, and its others can be placed after it
pub fits-says : (b : Board) (s : ℕ → Bool) (c : List ℕ) → IsTrue (fits_behind b s c) → Fits b s c
fits-says b s c t =
    let p = and_parts (is_known b c && is_idle_in s 0 c) (can_place b c (outside s b.bidders) s) t in
    let q = and_parts (is_known b c) (is_idle_in s 0 c) p.0 in
    record { known = q.0; idle = q.1; place = p.1 }

-- a known choice that is idle in a set, and whose others can be placed after it, fits after the set
pub fits-from : (b : Board) (s : ℕ → Bool) (c : List ℕ) → Fits b s c → IsTrue (fits_behind b s c)
fits-from b s c f = and_from (is_known b c && is_idle_in s 0 c) (can_place b c (outside s b.bidders) s)
    (and_from (is_known b c) (is_idle_in s 0 c) f.known f.idle) f.place

-- a choice that fits after a set has a number for each bidder
pub fits-length : (b : Board) (s : ℕ → Bool) (c : List ℕ) → IsTrue (fits_behind b s c) → length c ≡ b.bidders
fits-length b s c t = let e = known-length (menu_of b) 0 c (fits-says b s c t).known in omega (arith, e)

-- who is in the set has 0
pub idle-at : (s : ℕ → Bool) (k : ℕ) (c : List ℕ) (i : ℕ) → IsTrue (is_idle_in s k c) → i < length c → s (suc (k + i)) ≡ true → get_or c i 0 ≡ 0
idle-at s k [] i t inside in_set = absurd (omega (arith, inside))
idle-at s k (x ∷ c) zero t inside in_set =
    let p = and_parts (not (s (suc k)) || (x == 0)) (is_idle_in s (suc k) c) t in
    let same : suc (k + 0) ≡ suc k = omega arith in
    elim (or_cases (not (s (suc k))) (x == 0) p.0) [
      | inl out ↦ absurd (false≢true (sym (not-true (s (suc k)) out) ∙ (rw same at in_set)))
      | inr none ↦ eqb-true x 0 none
    ]
idle-at s k (x ∷ c) (suc i) t inside in_set =
    let p = and_parts (not (s (suc k)) || (x == 0)) (is_idle_in s (suc k) c) t in
    let same : suc (k + suc i) ≡ suc (suc k + i) = omega arith in
    idle-at s (suc k) c i p.1 (omega (arith, inside)) (rw same at in_set)

-- a choice is idle in a set when each number of the set is 0
pub idle-from : (s : ℕ → Bool) (k : ℕ) (c : List ℕ) → ((i : ℕ) → i < length c → s (suc (k + i)) ≡ true → get_or c i 0 ≡ 0) → IsTrue (is_idle_in s k c)
idle-from s k [] all = refl
idle-from s k (x ∷ c) all =
    let same : suc (k + 0) ≡ suc k = omega arith in
    and_from (not (s (suc k)) || (x == 0)) (is_idle_in s (suc k) c)
    (elim (cases_Bool (s (suc k))) [
      | inl in_set ↦ or_right (not (s (suc k))) (x == 0) (eq-eqb x 0 (all 0 (omega arith) (rw same in_set)))
      | inr out ↦ or_left (not (s (suc k))) (x == 0) (not_from_false (s (suc k)) out)
    ])
    (idle-from s (suc k) c (λ i inside in_set. all (suc i) (omega (arith, inside)) (let e : suc (k + suc i) ≡ suc (suc k + i) = omega arith in rw e in_set)))

-- what counts alike for all bidders after a place has the same sum
pub sum-same : (f g : ℕ → ℕ → ℤ) (k : ℕ) (c : List ℕ) → ((j i : ℕ) → k < j → f j i ≡ g j i) → sum_after f k c ≡ sum_after g k c
sum-same f g k [] same = refl
sum-same f g k (i ∷ c) same = rw (same (suc k) i (omega arith), sum-same f g (suc k) c (λ j h low. same j h (omega (arith, low)))) refl

move-own : (a b z r t : ℤ) → a ≡ b → z ≡ pos 0 → r ≡ t → a +ℤ r ≡ b +ℤ (z +ℤ t)
move-own a b z r t own none rest = omega (arith, ints)

move-rest : (a z b r t : ℤ) → z ≡ a → r ≡ b +ℤ t → a +ℤ r ≡ b +ℤ (z +ℤ t)
move-rest a z b r t own rest = omega (arith, ints)

-- with a number of a bidder outside, a choice counts that bid and what it counts outside the set with the bidder
pub sum-set : (s : ℕ → Bool) (counts : ℕ → ℕ → ℤ) (k : ℕ) (c : List ℕ) (i n j : ℕ) → j ≡ suc (k + i) → i < length c → s j ≡ false
    → sum_after (counts_outside s counts) k (set c i n) ≡ counts j n +ℤ sum_after (counts_outside (joined j s) counts) k c
sum-set s counts k [] i n j e inside new = absurd (omega (arith, inside))
sum-set s counts k (x ∷ c) zero n j e inside new =
    let at : suc k ≡ j = omega (arith, e) in
    let own : counts_outside s counts (suc k) n ≡ counts j n = subst (λ h. counts_outside s counts h n ≡ counts j n) (sym at)
    (cond-false (s j) (pos 0) (counts j n) new) in
    let none : counts_outside (joined j s) counts (suc k) x ≡ pos 0 = subst (λ h. counts_outside (joined j s) counts h x ≡ pos 0) (sym at)
    (ap (λ t. cond t (pos 0) (counts j x)) (joined-self j s)) in
    let rest = sum-same (counts_outside s counts) (counts_outside (joined j s) counts) (suc k) c
    (λ h i low. ap (λ t. cond t (pos 0) (counts h i)) (sym (joined-other j s h (λ q. omega (arith, q, low, at))))) in
    move-own (counts_outside s counts (suc k) n) (counts j n) (counts_outside (joined j s) counts (suc k) x) (sum_after (counts_outside s counts) (suc k) c)
    (sum_after (counts_outside (joined j s) counts) (suc k) c) own none rest
sum-set s counts k (x ∷ c) (suc i) n j e inside new =
    let rest = sum-set s counts (suc k) c i n j (omega (arith, e)) (omega (arith, inside)) new in
    let own : counts_outside (joined j s) counts (suc k) x ≡ counts_outside s counts (suc k) x = ap (λ t. cond t (pos 0) (counts (suc k) x))
    (joined-other j s (suc k) (λ q. omega (arith, q, e))) in
    move-rest (counts_outside s counts (suc k) x) (counts_outside (joined j s) counts (suc k) x) (counts j n)
    (sum_after (counts_outside s counts) (suc k) (set c i n)) (sum_after (counts_outside (joined j s) counts) (suc k) c) own rest

set-twice : (c : List ℕ) (k n i : ℕ) → set (set c k n) k i ≡ set c k i
set-twice [] k n i = refl
set-twice (x ∷ c) zero n i = refl
set-twice (x ∷ c) (suc k) n i = ap (λ d. x ∷ d) (set-twice c k n i)

move-most : (own d e x y : ℤ) → x ≡ own +ℤ d → y ≡ own +ℤ e → e ≤ℤ d → y ≤ℤ x
move-most own d e x y p q most = omega (arith, ints)

move-first : (own d e x y : ℤ) → x ≡ own +ℤ d → y ≡ own +ℤ e → e <ℤ d → y <ℤ x
move-first own d e x y p q most = omega (arith, ints)

-- Bidder j is placed next after a set and is given number i, and the choice d of the others is the best after the set with j.
module _ (b : Board) (idle : (s : ℕ → Bool) (j : ℕ) → IsTrue (b.may s j 0)) (counts : ℕ → ℕ → ℤ) (s : ℕ → Bool) (j : ℕ) (some : 0 < j) (low : j ≤ b.bidders)
    (new : s j ≡ false) where
  -- the choice d with the number of j
  other-number : (c : List ℕ) (n h : ℕ) → 0 < h → (h ≡ j → ⊥) → number_of (set c (j - 1) n) h ≡ number_of c h
  other-number c n h positive other = get_or-set_other c (j - 1) (h - 1) n 0 (λ e. other (omega (arith, e, some, positive)))

  own-number : (c : List ℕ) (n : ℕ) → length c ≡ b.bidders → number_of (set c (j - 1) n) j ≡ n
  own-number c n e = get_or-set_same c (j - 1) n 0 (omega (arith, e, some, low))

  known-with : (c : List ℕ) (n : ℕ) → n ≤ b.bids j → IsTrue (is_known b c) → IsTrue (is_known b (set c (j - 1) n))
  known-with c n known t = let e : suc (0 + (j - 1)) ≡ j = omega (arith, some) in known-set (menu_of b) 0 c (j - 1) n (rw e known) t

  -- a choice that fits with j in the set fits with a number of j
  pub fits-with : (d : List ℕ) (i : ℕ) → i ≤ b.bids j → IsTrue (b.may s j i) → IsTrue (fits_behind b (joined j s) d)
      → IsTrue (fits_behind b s (set d (j - 1) i))
  fits-with d i known may t =
      let f = fits-says b (joined j s) d t in
      let count = fits-length b (joined j s) d t in
      let fewer = outside-joined j s b.bidders some low new in
      fits-from b s (set d (j - 1) i) (record {
        known = known-with d i known f.known;
        idle = idle-from s 0 (set d (j - 1) i) (own_idle f count);
        place = subst (λ n. IsTrue (can_place b (set d (j - 1) i) n s)) (sym fewer)
            (next-from b (set d (j - 1) i) (outside (joined j s) b.bidders) s j (record {
              some = some;
              low = low;
              new = new;
              may = subst (λ n. IsTrue (b.may s j n)) (sym (own-number d i count)) may;
              rest = place-other b d (set d (j - 1) i) (outside (joined j s) b.bidders) (joined j s) more f.place;
            }));
      })
    where
      own_idle : Fits b (joined j s) d → length d ≡ b.bidders → (h : ℕ) → h < length (set d (j - 1) i) → s (suc (0 + h)) ≡ true
          → get_or (set d (j - 1) i) h 0 ≡ 0
      own_idle f count h inside in_set =
          let other : suc (0 + h) ≡ j → ⊥ = λ e. false≢true (sym new ∙ subst (λ k. s k ≡ true) e in_set) in
          get_or-set_other d (j - 1) h i 0 (λ e. other (omega (arith, e, some)))
          ∙ idle-at (joined j s) 0 d h f.idle (omega (arith, inside, length-set d (j - 1) i)) (joined-other j s (suc (0 + h)) other ∙ in_set)

      more : (h : ℕ) (t : ℕ → Bool) → 0 < h → joined j s h ≡ false → IsTrue (b.may t h (number_of d h)) → IsTrue (b.may t h (number_of (set d (j - 1) i) h))
      more h t positive out may = subst (λ n. IsTrue (b.may t h n)) (sym (other-number d i h positive (joined-differs j s h out))) may

  -- a choice that fits and for which j can be next fits with j in the set, without its number
  pub fits-less : (c : List ℕ) → IsTrue (fits_behind b s c) → Next b c (outside (joined j s) b.bidders) s j
      → IsTrue (fits_behind b (joined j s) (set c (j - 1) 0))
  fits-less c t n =
      let f = fits-says b s c t in
      let count = fits-length b s c t in
      fits-from b (joined j s) (set c (j - 1) 0) (record {
        known = known-with c 0 (omega arith) f.known;
        idle = idle-from (joined j s) 0 (set c (j - 1) 0) (own_idle f count);
        place = place-other b c (set c (j - 1) 0) (outside (joined j s) b.bidders) (joined j s) more n.rest;
      })
    where
      own_idle : Fits b s c → length c ≡ b.bidders → (h : ℕ) → h < length (set c (j - 1) 0) → joined j s (suc (0 + h)) ≡ true → get_or (set c (j - 1) 0) h 0 ≡ 0
      own_idle f count h inside in_set =
          elim (cases_eq (suc (0 + h)) j) [
            | inl same ↦
                let at : h ≡ j - 1 = omega (arith, same) in
                subst (λ k. get_or (set c (j - 1) 0) k 0 ≡ 0) (sym at) (own-number c 0 count)
            | inr other ↦
                get_or-set_other c (j - 1) h 0 0 (λ e. other (omega (arith, e, some)))
                ∙ idle-at s 0 c h f.idle (omega (arith, inside, length-set c (j - 1) 0)) (sym (joined-other j s (suc (0 + h)) other) ∙ in_set)
          ]

      more : (h : ℕ) (t : ℕ → Bool) → 0 < h → joined j s h ≡ false → IsTrue (b.may t h (number_of c h)) → IsTrue (b.may t h (number_of (set c (j - 1) 0) h))
      more h t positive out may = subst (λ n. IsTrue (b.may t h n)) (sym (other-number c 0 h positive (joined-differs j s h out))) may

  -- the best of the choices that give j the number i if j is next
  pub step-bound : (d : List ℕ) (i : ℕ) → IsSetBest b counts (joined j s) d → (c : List ℕ) → IsTrue (fits_behind b s c)
      → Next b c (outside (joined j s) b.bidders) s j → number_of c j ≡ i → IsBefore (sum_outside s counts) (set d (j - 1) i) c
  step-bound d i best c t n is =
      let e = set c (j - 1) 0 in
      let less = fits-less c t n in
      let count_c : length c ≡ b.bidders = fits-length b s c t in
      let count_d : length d ≡ b.bidders = fits-length b (joined j s) d best.passed in
      let back : set e (j - 1) i ≡ c = set-back c count_c is in
      let own_d = sum-set s counts 0 d (j - 1) i j (omega (arith, some)) (omega (arith, count_d, some, low)) new in
      let count_e : length e ≡ length c = length-set c (j - 1) 0 in
      let own_e = sum-set s counts 0 e (j - 1) i j (omega (arith, some)) (omega (arith, count_e, count_c, some, low)) new in
      let most : sum_outside (joined j s) counts e ≤ℤ sum_outside (joined j s) counts d = best.greatest e less in
      let none_d : get_or d (j - 1) 0 ≡ 0 = none_in d count_d (fits-says b (joined j s) d best.passed) in
      let none_e : get_or e (j - 1) 0 ≡ 0 = own-number c 0 count_c in
      let before : IsBefore (sum_outside s counts) (set d (j - 1) i) (set e (j - 1) i) = record {
        most = move-most (counts j i) (sum_outside (joined j s) counts d) (sum_outside (joined j s) counts e) (sum_outside s counts (set d (j - 1) i))
            (sum_outside s counts (set e (j - 1) i)) own_d own_e most;
        first = λ earlier.
            let first : sum_outside (joined j s) counts e <ℤ sum_outside (joined j s) counts d = best.first e less
            (earlier-set d e (j - 1) i (omega (arith, count_d, some, low)) (omega (arith, count_e, count_c, count_d)) (none_d ∙ sym none_e) earlier) in
            move-first (counts j i) (sum_outside (joined j s) counts d) (sum_outside (joined j s) counts e) (sum_outside s counts (set d (j - 1) i))
            (sum_outside s counts (set e (j - 1) i)) own_d own_e first;
      } in
      subst (IsBefore (sum_outside s counts) (set d (j - 1) i)) back before
    where
      set-back : (c : List ℕ) → length c ≡ b.bidders → number_of c j ≡ i → set (set c (j - 1) 0) (j - 1) i ≡ c
      set-back c count is = set-twice c (j - 1) 0 i ∙ (ap (λ n. set c (j - 1) n) (sym is) ∙ set-get_or c (j - 1) 0)

      none_in : (d : List ℕ) → length d ≡ b.bidders → Fits b (joined j s) d → get_or d (j - 1) 0 ≡ 0
      none_in d count f =
          let at : j ≡ suc (0 + (j - 1)) = omega (arith, some) in
          idle-at (joined j s) 0 d (j - 1) f.idle (omega (arith, count, some, low)) (subst (λ h. joined j s h ≡ true) at (joined-self j s))
