-- The first entry that is filled, that of all bidders, and the last, that of nobody.
use Rattle.std.specs.Prelude.{Bool, IsTrue, List, [], cond, false, get_or, length, pos, refl, replicate, suc, true, zero, ℕ, ℤ, ◌&&◌, ◌+◌, ◌-◌, ◌<◌}
use Rattle.std.specs.Prelude.{◌∷◌, ◌≡◌, ◌≤◌}
use Rattle.std.proofs.Common.{sym, ◌∙◌, ap, arith, subst}
use Rattle.std.proofs.lemmas.Int.{ints}
use Rattle.auction_model.specs.Market.{sum_after}
use Rattle.auction_model.specs.Greatest.{IsFirstGreatest}
use Rattle.auction_model.proofs.BookMarket.{none-known}
use Rattle.auction_model.proofs.PlainLaws.{IsFirstGreatest-same}
use Rattle.slot_places.specs.Steps.{Next, IsBefore}
use Rattle.slot_places.specs.Board.{Board, nobody, joined, outside, menu_of, is_known, can_place, is_placed}
use Rattle.slot_places.specs.SetTable.{is_idle_in, fits_behind, counts_outside, sum_outside, IsSetBest}
use Rattle.slot_places.proofs.SetLaws.{outside-nobody, outside-joined}
use Rattle.slot_places.proofs.PlaceLaws.{next-which, place-idle}
use Rattle.slot_places.proofs.MarketLaws.{none-number}
use Rattle.slot_places.proofs.BestLaws.{before-same, first-of}
use Rattle.slot_places.proofs.StepLaws.{fits-says, fits-from, fits-length, idle-at, idle-from, sum-same}

-- nobody is idle by being in the set of nobody
idle-nobody : (k : ℕ) (c : List ℕ) → is_idle_in nobody k c ≡ true
idle-nobody k [] = refl
idle-nobody k (i ∷ c) = idle-nobody (suc k) c

-- a choice without a number but 0
zeros-are : (c : List ℕ) → ((i : ℕ) → i < length c → get_or c i 0 ≡ 0) → c ≡ replicate (length c) 0
zeros-are [] all = refl
zeros-are (x ∷ c) all = cc (all 0 (omega arith), zeros-are c (λ i inside. all (suc i) (omega (arith, inside))))

sum-zeros : (f : ℕ → ℕ → ℤ) (k n : ℕ) → ((j : ℕ) → k < j → j ≤ k + n → f j 0 ≡ pos 0) → sum_after f k (replicate n 0) ≡ pos 0
sum-zeros f k zero all = refl
sum-zeros f k (suc n) all =
    let own : f (suc k) 0 ≡ pos 0 = all (suc k) (omega arith) (omega arith) in
    let rest = sum-zeros f (suc k) n (λ j low high. all j (omega (arith, low)) (omega (arith, high))) in
    omega (arith, ints, own, rest)

module _ (b : Board) (idle : (s : ℕ → Bool) (j : ℕ) → IsTrue (b.may s j 0)) (counts : ℕ → ℕ → ℤ) where
  -- a choice in which nobody wins fits after every set
  pub none-fits : (s : ℕ → Bool) → IsTrue (fits_behind b s (replicate b.bidders 0))
  none-fits s =
      let c = replicate b.bidders 0 in
      fits-from b s c (record {
        known = none-known (menu_of b) 0 b.bidders (omega arith);
        idle = idle-from s 0 c (λ i inside in_set. let e : suc i - 1 ≡ i = omega arith in subst (λ k. get_or c k 0 ≡ 0) e (none-number b.bidders (suc i)));
        place = place-idle b c (outside s b.bidders) s (omega arith) (λ j t some new. subst (λ n. IsTrue (b.may t j n)) (sym (none-number b.bidders j))
            (idle t j));
      })

  -- what is no worse than each choice by its next bidder is the best
  pub best-by_next : (s : ℕ → Bool) (c : List ℕ) → 0 < outside s b.bidders → IsTrue (fits_behind b s c)
      → ((d : List ℕ) (j : ℕ) → IsTrue (fits_behind b s d) → Next b d (outside (joined j s) b.bidders) s j → IsBefore (sum_outside s counts) c d)
      → IsSetBest b counts s c
  best-by_next s c some fits all = first-of (sum_outside s counts) (fits_behind b s) c fits each
    where
      by : (d : List ℕ) (n : ℕ) → IsTrue (fits_behind b s d) → outside s b.bidders ≡ suc n → IsTrue (can_place b d (suc n) s)
          → IsBefore (sum_outside s counts) c d
      by d n t e place =
          let q = next-which b d n s place in
          let fewer = outside-joined q.0 s b.bidders q.1.some q.1.low q.1.new in
          let same : n ≡ outside (joined q.0 s) b.bidders = omega (arith, e, fewer) in
          all d q.0 t (subst (λ m. Next b d m s q.0) same q.1)

      each : (d : List ℕ) → IsTrue (fits_behind b s d) → IsBefore (sum_outside s counts) c d
      each d t =
          let e : outside s b.bidders ≡ suc (outside s b.bidders - 1) = omega (arith, some) in
          by d (outside s b.bidders - 1) t e (subst (λ n. IsTrue (can_place b d n s)) e (fits-says b s d t).place)

  -- if all bidders are in the set the choice of nobody is the only one
  pub sum-full : (s : ℕ → Bool) → ((j : ℕ) → 0 < j → j ≤ b.bidders → s j ≡ true) → sum_outside s counts (replicate b.bidders 0) ≡ pos 0
  sum-full s all = sum-zeros (counts_outside s counts) 0 b.bidders (λ j some low. ap (λ t. cond t (pos 0) (counts j 0)) (all j some (omega (arith, low))))

  -- if all bidders are in the set the choice of nobody is the best
  pub best-full : (s : ℕ → Bool) → ((j : ℕ) → 0 < j → j ≤ b.bidders → s j ≡ true) → IsSetBest b counts s (replicate b.bidders 0)
  best-full s all = first-of (sum_outside s counts) (fits_behind b s) (replicate b.bidders 0) (none-fits s) each
    where
      each : (d : List ℕ) → IsTrue (fits_behind b s d) → IsBefore (sum_outside s counts) (replicate b.bidders 0) d
      each d t =
          let f = fits-says b s d t in
          let count = fits-length b s d t in
          let same : d ≡ replicate (length d) 0 = zeros-are d (λ i inside. idle-at s 0 d i f.idle inside
          (all (suc (0 + i)) (omega arith) (omega (arith, count, inside)))) in
          let is : replicate b.bidders 0 ≡ d = ap (λ n. replicate n 0) (sym count) ∙ sym same in
          subst (IsBefore (sum_outside s counts) (replicate b.bidders 0)) is (before-same (sum_outside s counts) (replicate b.bidders 0))

  -- the best of all bidders is the best of the market
  pub best-whole : (c : List ℕ) → IsSetBest b counts nobody c → IsFirstGreatest (is_placed b) (sum_after counts 0) c
  best-whole c best = IsFirstGreatest-same (fits_behind b nobody) (is_placed b) (sum_outside nobody counts) (sum_after counts 0) c tests
      (λ d. sum-same (counts_outside nobody counts) counts 0 d (λ j i some. refl)) best
    where
      true-right : (x : Bool) → x && true ≡ x
      true-right true = refl
      true-right false = refl

      tests : (d : List ℕ) → fits_behind b nobody d ≡ is_placed b d
      tests d =
          ap (λ x. (is_known b d && x) && can_place b d (outside nobody b.bidders) nobody) (idle-nobody 0 d)
          ∙ (ap (λ x. x && can_place b d (outside nobody b.bidders) nobody) (true-right (is_known b d))
          ∙ ap (λ n. is_known b d && can_place b d n nobody) (outside-nobody b.bidders))
