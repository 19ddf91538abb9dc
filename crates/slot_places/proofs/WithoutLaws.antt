-- Boards without the bids of one bidder, or of nobody, and the range of a search for lowered worths.
use Rattle.std.specs.Prelude.{Bool, IsTrue, List, [], get_or, length, negsuc, not, pos, refl, suc, unsigned_abs, zero, ℕ, ℤ, ◌&&◌, ◌*◌, ◌+◌, ◌-◌, ◌<◌}
use Rattle.std.specs.Prelude.{◌∷◌, ◌≡◌, ◌≤ℤ◌, ◌≤◌}
use Rattle.std.proofs.Common.{sym, ◌∙◌, ap, arith, subst, eqb}
use Rattle.std.proofs.lemmas.Bool.{ne_eqb, cond-false, and_parts}
use Rattle.std.proofs.lemmas.Int.{ints}
use Rattle.std.proofs.Math.Nat.{mul-le-mul_left, mul_assoc}
use Rattle.auction_model.specs.Market.{number_of, sum_after, value_of}
use Rattle.auction_model.specs.Menu.{is_known_after}
use Rattle.auction_model.specs.Lowered.{of_bidder, sum_to}
use Rattle.auction_model.specs.Greatest.{IsFirstGreatest, IsWinning}
use Rattle.auction_model.proofs.ChoiceLaws.{known-length}
use Rattle.auction_model.proofs.TableLaws.{IsGreatestValue-same}
use Rattle.auction_model.proofs.PlainLaws.{IsFirstGreatest-same}
use Rattle.choices.specs.Lowering.{CanLower}
use Rattle.slot_places.specs.Slots.{SlotList, bids_of, bid_of, amount_of}
use Rattle.slot_places.specs.Board.{nobody, joined, outside, menu_of, is_known, can_place, is_placed, board_of, board_without, market_of_slots}
use Rattle.slot_places.specs.SetTable.{holds, is_idle_in, fits_behind, sum_outside, IsSetTable, StaysInRange}
use Rattle.slot_places.proofs.SameLaws.{some-same}

known-none : (slots : SlotList) (k : ℕ) (c : List ℕ) → is_known_after (menu_of (board_without slots 0)) k c ≡ is_known_after (menu_of (board_of slots)) k c
known-none slots k [] = refl
known-none slots k (i ∷ c) =
    let bids : (board_without slots 0).bids (suc k) ≡ length (bids_of slots (suc k)) = cond-false (eqb (suc k) 0) 0 (length (bids_of slots (suc k)))
    (ne_eqb (suc k) 0 (omega arith)) in
    rw (bids, known-none slots (suc k) c) refl

-- the same bidders can be placed whether one bidder's bids are left out or not
pub place-without : (slots : SlotList) (skip : ℕ) (c : List ℕ) (left : ℕ) (s : ℕ → Bool) → can_place (board_without slots skip) c left s ≡ can_place
    (board_of slots) c left s
place-without slots skip c zero s = refl
place-without slots skip c (suc left) s =
    some-same (λ j. not (s j) && ((board_without slots skip).may s j (number_of c j) && can_place (board_without slots skip) c left (joined j s)))
    (λ j. not (s j) && ((board_of slots).may s j (number_of c j) && can_place (board_of slots) c left (joined j s))) (length slots.bidders)
    (λ j some. ap (λ x. not (s j) && ((board_of slots).may s j (number_of c j) && x)) (place-without slots skip c left (joined j s)))

-- if nobody is left out, the placed choices are those of the slots
pub placed-none : (slots : SlotList) (c : List ℕ) → is_placed (board_without slots 0) c ≡ is_placed (board_of slots) c
placed-none slots c =
    ap (λ x. x && can_place (board_without slots 0) c (length slots.bidders) nobody) (known-none slots 0 c)
    ∙ ap (λ x. is_known (board_of slots) c && x) (place-without slots 0 c (length slots.bidders) nobody)

-- no bid of a choice is worth more than the choice
sum-nonnegative : (slots : SlotList) (k : ℕ) (c : List ℕ) → pos 0 ≤ℤ sum_after (amount_of slots) k c
sum-nonnegative slots k [] = omega (arith, ints)
sum-nonnegative slots k (i ∷ c) = let rest = sum-nonnegative slots (suc k) c in omega (arith, ints, rest)

-- the bid at a place of a choice is worth no more than the choice
pub one-bid : (slots : SlotList) (k : ℕ) (c : List ℕ) (p j : ℕ) → j ≡ suc (k + p) → p < length c → amount_of slots j (get_or c p 0) ≤ℤ sum_after
    (amount_of slots) k c
one-bid slots k [] p j e inside = absurd (omega (arith, inside))
one-bid slots k (i ∷ c) zero j e inside =
    let at : suc k ≡ j = omega (arith, e) in
    let rest = sum-nonnegative slots (suc k) c in
    subst (λ h. amount_of slots h i ≤ℤ sum_after (amount_of slots) k (i ∷ c)) at (omega (arith, ints, rest))
one-bid slots k (i ∷ c) (suc p) j e inside =
    let rest : amount_of slots j (get_or c p 0) ≤ℤ sum_after (amount_of slots) (suc k) c = one-bid slots (suc k) c p j (omega (arith, e))
    (omega (arith, inside)) in
    omega (arith, ints, rest)

abs-above : (a : ℕ) (v : ℤ) → pos a ≤ℤ v → a ≤ unsigned_abs v
abs-above a (pos v) h = omega (arith, ints, h)
abs-above a (negsuc v) h = absurd (omega (arith, ints, h))

sum-at_most : (f g : ℕ → ℕ) (m n : ℕ) → ((j : ℕ) → 0 < j → j ≤ n → f j ≤ m + g j) → sum_to f n ≤ n * m + sum_to g n
sum-at_most f g m zero h = omega arith
sum-at_most f g m (suc n) h =
    let rest = sum-at_most f g m n (λ j some low. h j some (omega (arith, low))) in
    let own = h (suc n) (omega arith) (omega arith) in
    omega (arith, rest, own)

mul-assoc : (a b c : ℕ) → a * (b * c) ≡ a * b * c
mul-assoc a b c = sym (mul_assoc a b c)

-- if the amounts can be lowered, no sum of a placed choice leaves the range
pub range-of : (slots : SlotList) (z : List ℕ) (den : ℤ) (surplus : List ℤ) → IsWinning (market_of_slots slots) z → CanLower (market_of_slots slots) z den surplus
    → StaysInRange (board_without slots 0) (amount_of slots) den surplus
range-of slots z den surplus winning can c t =
    let allowed : IsTrue (is_placed (board_of slots) c) = sym (placed-none slots c) ∙ t in
    let v = value_of (market_of_slots slots) z in
    let d = unsigned_abs den in
    let n = length slots.bidders in
    let most : sum_after (amount_of slots) 0 c ≤ℤ v = winning.greatest c allowed in
    let count = known-length (menu_of (board_of slots)) 0 c (and_parts (is_known (board_of slots) c) (can_place (board_of slots) c n nobody) allowed).0 in
    let each : (j : ℕ) → 0 < j → j ≤ n → d * unsigned_abs (amount_of slots j (number_of c j)) + unsigned_abs
    (of_bidder surplus j) ≤ d * unsigned_abs v + unsigned_abs (of_bidder surplus j) = λ j some low.
    let bid = one-bid slots 0 c (j - 1) j (omega (arith, some)) (omega (arith, count, some, low)) in
    let high : pos (bid_of slots j (number_of c j)).amount ≤ℤ v = omega (arith, ints, bid, most) in
    let small = abs-above (bid_of slots j (number_of c j)).amount v high in
    let more = mul-le-mul_left d small in
    omega (arith, more) in
    let sum = sum-at_most (λ j. d * unsigned_abs (amount_of slots j (number_of c j)) + unsigned_abs (of_bidder surplus j))
    (λ j. unsigned_abs (of_bidder surplus j)) (d * unsigned_abs v) n each in
    let range = can.range in
    let same : n * (d * unsigned_abs v) ≡ n * d * unsigned_abs v = mul-assoc n d (unsigned_abs v) in
    omega (arith, sum, range, same)

fits-none : (slots : SlotList) (s : ℕ → Bool) (c : List ℕ) → fits_behind (board_without slots 0) s c ≡ fits_behind (board_of slots) s c
fits-none slots s c =
    ap (λ x. (x && is_idle_in s 0 c) && can_place (board_without slots 0) c (outside s (length slots.bidders)) s) (known-none slots 0 c)
    ∙ ap (λ x. (is_known (board_of slots) c && is_idle_in s 0 c) && x) (place-without slots 0 c (outside s (length slots.bidders)) s)

-- the exact table if nobody is left out is that of the slots
pub table-none : (slots : SlotList) (counts : ℕ → ℕ → ℤ) (table : List (List ℤ)) → IsSetTable (board_without slots 0) counts table
    → IsSetTable (board_of slots) counts table
table-none slots counts table is = record {
  lines = is.lines;
  sets = is.sets;
  exact = λ bits low. IsGreatestValue-same (fits_behind (board_without slots 0) (holds bits)) (fits_behind (board_of slots) (holds bits))
      (sum_outside (holds bits) counts) (get_or (get_or table 0 []) bits (pos 0)) (fits-none slots (holds bits)) (is.exact bits low);
}

-- the first of the greatest if nobody is left out is that of the slots
pub first-none : (slots : SlotList) (value : List ℕ → ℤ) (c : List ℕ) → IsFirstGreatest (is_placed (board_without slots 0)) value c
    → IsFirstGreatest (is_placed (board_of slots)) value c
first-none slots value c g = IsFirstGreatest-same (is_placed (board_without slots 0)) (is_placed (board_of slots)) value value c (placed-none slots)
    (λ d. refl) g
