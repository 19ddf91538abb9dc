-- A search for the amounts themselves, in which one bidder may have no bids.
use Rattle.std.specs.Prelude.{Bool, IsTrue, List, [], cond, false, get_or, length, not, pos, refl, suc, true, unsigned_abs, zero, ℕ, ℤ, ◌&&◌, ◌*◌}
use Rattle.std.specs.Prelude.{◌+◌, ◌-◌, ◌<◌, ◌==◌, ◌^◌, ◌∷◌, ◌≡◌, ◌≤ℤ◌, ◌≤◌}
use Rattle.std.proofs.Common.{sym, ◌∙◌, ap, arith, subst}
use Rattle.std.proofs.lemmas.Bool.{and_parts, cond_both}
use Rattle.std.proofs.lemmas.Int.{ints}
use Rattle.auction_model.specs.Greatest.{IsFirstGreatest, IsGreatestValue}
use Rattle.auction_model.specs.Lowered.{lowered, of_bidder, sum_to}
use Rattle.auction_model.specs.Market.{number_of, sum_after, uses, value_of}
use Rattle.auction_model.specs.Menu.{fits_after, packages_after}
use Rattle.auction_model.specs.Package.{is_within}
use Rattle.auction_model.specs.Prices.{allowed_without}
use Rattle.auction_model.proofs.PlainLaws.{IsFirstGreatest-same, sum-plain}
use Rattle.auction_model.proofs.SkipLaws.{fits-skip, move-last}
use Rattle.slot_places.specs.Slots.{SlotList, bids_of, bid_of, amount_of}
use Rattle.slot_places.specs.Kept.{AreSlots}
use Rattle.slot_places.specs.Board.{Board, nobody, menu_of, is_known, can_place, is_placed, board_of, board_without, market_of_slots}
use Rattle.slot_places.specs.SetTable.{holds, fits_behind, counts_outside, sum_outside, IsSetTable, StaysInRange}
use Rattle.auction_model.proofs.ChoiceLaws.{known-length}
use Rattle.slot_places.proofs.MarketLaws.{placed-number, slots-idle}
use Rattle.slot_places.proofs.SizeLaws.{sum-size}
use Rattle.slot_places.proofs.NumberLaws.{idle-always}
use Rattle.slot_places.proofs.StepLaws.{sum-same}
use Rattle.slot_places.proofs.WithoutLaws.{place-without}

-- the range: at most six amounts of at most 2^42
amount-small : (slots : SlotList) → AreSlots slots → (j i : ℕ) → 0 < j → j ≤ length slots.bidders → i ≤ length (bids_of slots j)
    → (bid_of slots j i).amount ≤ 2 ^ 42
amount-small slots kept j zero some low known = omega arith
amount-small slots kept j (suc i) some low known = (kept.bidders j some low).amounts i (omega (arith, known))

bids-fewer : (slots : SlotList) (skip j : ℕ) → (board_without slots skip).bids j ≤ length (bids_of slots j)
bids-fewer slots skip j = cond_both (j == skip) 0 (length (bids_of slots j)) (λ n. n ≤ length (bids_of slots j)) (λ _. omega arith) (λ _. omega arith)

-- a sum of n numbers of at most that much each is at most n times that
pub sum-most : (f : ℕ → ℕ) (most n : ℕ) → ((j : ℕ) → 0 < j → j ≤ n → f j ≤ most) → sum_to f n ≤ n * most
sum-most f most zero h = omega arith
sum-most f most (suc n) h =
    let rest = sum-most f most n (λ j some low. h j some (omega (arith, low))) in
    let own = h (suc n) (omega arith) (omega arith) in
    omega (arith, rest, own)

-- with a denominator of 1 and no surpluses, no sum of a placed choice leaves the range
pub range-plain : (slots : SlotList) (skip : ℕ) (surplus : List ℤ) → AreSlots slots → ((k : ℕ) → get_or surplus k (pos 0) ≡ pos 0)
    → StaysInRange (board_without slots skip) (amount_of slots) (pos 1) surplus
range-plain slots skip surplus kept zeros c t =
    let n = length slots.bidders in
    let b = board_without slots skip in
    let known = (and_parts (is_known b c) (can_place b c n nobody) t).0 in
    let each : (j : ℕ) → 0 < j → j ≤ n → 1 * (bid_of slots j (number_of c j)).amount + unsigned_abs (of_bidder surplus j) ≤ 2 ^ 42 = λ j some low.
    let number = placed-number b (idle-always slots skip) c j known some low in
    let few = bids-fewer slots skip j in
    let small = amount-small slots kept j (number_of c j) some low (omega (arith, number, few)) in
    let none : of_bidder surplus j ≡ pos 0 = zeros (j - 1) in
    rw none (omega (arith, small)) in
    let sum = sum-most (λ j. 1 * (bid_of slots j (number_of c j)).amount + unsigned_abs (of_bidder surplus j)) (2 ^ 42) n each in
    let few = kept.few in
    omega (arith, sum, few)

-- no allowed choice is worth more than that many of the greatest amounts
pub value-small : (slots : SlotList) (c : List ℕ) → AreSlots slots → IsTrue (is_placed (board_of slots) c)
    → unsigned_abs (value_of (market_of_slots slots) c) ≤ 6 * 2 ^ 42
value-small slots c kept t =
    let n = length slots.bidders in
    let b = board_of slots in
    let known = (and_parts (is_known b c) (can_place b c n nobody) t).0 in
    let count = known-length (menu_of b) 0 c known in
    let each : (i : ℕ) → i < length c → unsigned_abs (amount_of slots (suc (0 + i)) (get_or c i 0)) ≤ 2 ^ 42 = λ i inside.
    let number = placed-number b (slots-idle slots) c (suc i) known (omega arith) (omega (arith, inside, count)) in
    let down : suc i - 1 ≡ i = omega arith in
    let low : get_or c i 0 ≤ length (bids_of slots (suc i)) = subst (λ h. get_or c h 0 ≤ length (bids_of slots (suc i))) down number in
    let same : i ≡ 0 + i = omega arith in
    subst (λ h. unsigned_abs (amount_of slots (suc h) (get_or c i 0)) ≤ 2 ^ 42) same
    (amount-small slots kept (suc i) (get_or c i 0) (omega arith) (omega (arith, inside, count)) low) in
    let sum = sum-size (amount_of slots) (λ j. 2 ^ 42) 0 c each in
    let whole = sum-most (λ j. 2 ^ 42) (2 ^ 42) (0 + length c) (λ j some low. omega arith) in
    let few = kept.few in
    omega (arith, sum, whole, count, few)

-- a lowered amount is the amount itself
amount-plain : (slots : SlotList) (surplus : List ℤ) (j i : ℕ) → of_bidder surplus j ≡ pos 0 → lowered (pos 1)
    (amount_of slots) surplus j i ≡ amount_of slots j i
amount-plain slots surplus j zero none = rw none refl
amount-plain slots surplus j (suc i) none = rw none omega (arith, ints)

module _ (slots : SlotList) (skip : ℕ) (surplus : List ℤ) (zeros : (k : ℕ) → get_or surplus k (pos 0) ≡ pos 0) where
  -- with a denominator of 1 and no surpluses, the sum of a choice is its value
  pub value-plain : (c : List ℕ) → sum_after (lowered (pos 1) (amount_of slots) surplus) 0 c ≡ value_of (market_of_slots slots) c
  value-plain c = sum-plain (amount_of slots) surplus 0 c (λ j. refl) (λ j. zeros (j - 1))

  -- the first of the greatest by the sums is the first of the greatest by the values
  pub first-plain : (c : List ℕ) → IsFirstGreatest (is_placed (board_without slots skip)) (sum_after (lowered (pos 1) (amount_of slots) surplus) 0) c
      → IsFirstGreatest (is_placed (board_without slots skip)) (value_of (market_of_slots slots)) c
  first-plain c g = IsFirstGreatest-same (is_placed (board_without slots skip)) (is_placed (board_without slots skip))
      (sum_after (lowered (pos 1) (amount_of slots) surplus) 0) (value_of (market_of_slots slots)) c (λ d. refl) value-plain g

  outside-plain : (s : ℕ → Bool) (c : List ℕ) → sum_outside s (lowered (pos 1) (amount_of slots) surplus) c ≡ sum_outside s (amount_of slots) c
  outside-plain s c =
      sum-same (counts_outside s (lowered (pos 1) (amount_of slots) surplus)) (counts_outside s (amount_of slots)) 0 c
      (λ j i some. ap (λ z. cond (s j) (pos 0) z) (amount-plain slots surplus j i (zeros (j - 1))))

  -- the exact table of the lowered amounts is that of the amounts
  pub table-plain : (table : List (List ℤ)) → IsSetTable (board_without slots skip) (lowered (pos 1) (amount_of slots) surplus) table
      → IsSetTable (board_without slots skip) (amount_of slots) table
  table-plain table is = record {
    lines = is.lines;
    sets = is.sets;
    exact = λ bits low.
        let e = is.exact bits low in
        most-same (fits_behind (board_without slots skip) (holds bits)) (sum_outside (holds bits) (lowered (pos 1) (amount_of slots) surplus))
        (sum_outside (holds bits) (amount_of slots)) (get_or (get_or table 0 []) bits (pos 0)) (outside-plain (holds bits)) e;
  }
    where
      most-same : (p : List ℕ → Bool) (v w : List ℕ → ℤ) (most : ℤ) → ((c : List ℕ) → v c ≡ w c) → IsGreatestValue p v most → IsGreatestValue p w most
      most-same p v w most same e = record {
        reached = (e.reached.0, e.reached.1, sym (same e.reached.0) ∙ e.reached.2);
        bound = λ c t. subst (λ (x : ℤ). x ≤ℤ most) (same c) (e.bound c t);
      }

-- if a bidder has no bids the placed choices are those that don't use it
no-packages : (b : Board) (k : ℕ) (c : List ℕ) → packages_after (menu_of b) k c ≡ []
no-packages b k [] = refl
no-packages b k (i ∷ c) = no-packages b (suc k) c

true-right : (x : Bool) → x && true ≡ x
true-right true = refl
true-right false = refl

fits-known : (b : Board) (c : List ℕ) → fits_after (menu_of b) 0 [] c ≡ is_known b c
fits-known b c = ap (λ p. is_known b c && is_within p []) (no-packages b 0 c) ∙ true-right (is_known b c)

known-without : (slots : SlotList) (skip : ℕ) (c : List ℕ) → 0 < skip → is_known (board_without slots skip) c ≡ is_known (board_of slots) c && not (uses c skip)
known-without slots skip c some =
    sym (fits-known (board_without slots skip) c) ∙ (fits-skip (menu_of (board_of slots)) skip [] c some
    ∙ ap (λ x. x && not (uses c skip)) (fits-known (board_of slots) c))

-- a choice is placed without a bidder's bids just if it is allowed and doesn't use the bidder
pub placed-without : (slots : SlotList) (skip : ℕ) (c : List ℕ) → 0 < skip → is_placed (board_without slots skip) c ≡ allowed_without (market_of_slots slots) skip c
placed-without slots skip c some =
    let n = length slots.bidders in
    ap (λ x. x && can_place (board_without slots skip) c n nobody) (known-without slots skip c some)
    ∙ (ap (λ x. (is_known (board_of slots) c && not (uses c skip)) && x) (place-without slots skip c n nobody)
    ∙ move-last (is_known (board_of slots) c) (can_place (board_of slots) c n nobody) (not (uses c skip)))

-- the first of the greatest without a bidder's bids is the first of the greatest that don't use the bidder
pub first-without : (slots : SlotList) (skip : ℕ) (c : List ℕ) → 0 < skip → IsFirstGreatest (is_placed (board_without slots skip))
    (value_of (market_of_slots slots)) c → IsFirstGreatest (allowed_without (market_of_slots slots) skip) (value_of (market_of_slots slots)) c
first-without slots skip c some g =
    IsFirstGreatest-same (is_placed (board_without slots skip)) (allowed_without (market_of_slots slots) skip) (value_of (market_of_slots slots))
    (value_of (market_of_slots slots)) c (λ d. placed-without slots skip d some) (λ d. refl) g
