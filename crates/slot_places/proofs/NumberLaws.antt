-- The step of one number, by sets of bits and as the code makes it.
use Rattle.std.specs.Prelude.{◌≡◌, ℕ, suc, ◌+◌, ◌-◌, ◌*◌, ◌^◌, ◌≤◌, ◌<◌, Bool, false, IsTrue, List, length, set, refl, ℤ, ◌+ℤ◌, unsigned_abs}
use Rattle.std.proofs.Common.{sym, ◌∙◌, ap, arith, subst}
use Rattle.std.proofs.lemmas.Bool.{eq-eqb, eqb-true}
use Rattle.std.proofs.lemmas.List.{get_or-set_same}
use Rattle.auction_model.specs.Lowered.{lowered, of_bidder}
use Rattle.auction_model.specs.Market.{number_of}
use Rattle.slot_places.specs.Slots.{SlotList, amount_of, bid_of}
use Rattle.slot_places.specs.Board.{Board, joined, outside, board_without, starts_at}
use Rattle.slot_places.specs.SetTable.{holds, fits_behind, sum_outside, IsSetBest, StaysInRange}
use Rattle.slot_places.specs.Steps.{Next, IsBefore}
use Rattle.slot_places.proofs.BestLaws.{before-trans}
use Rattle.slot_places.proofs.SetBits.{holds-joined, holds-within}
use Rattle.slot_places.proofs.SameLaws.{IsSame, AsksBidders, best-same, sum_outside-same, slots-ask}
use Rattle.slot_places.proofs.StepLaws.{fits-length, fits-with, step-bound, sum-set}
use Rattle.slot_places.proofs.SizeLaws.{own-size, whole-size}

-- with one bidder left out, each bidder can still be given 0 after any set
pub idle-always : (slots : SlotList) (skip : ℕ) (s : ℕ → Bool) (j : ℕ) → IsTrue ((board_without slots skip).may s j 0)
idle-always slots skip s j = refl

module _ (b : Board) (asks : AsksBidders b) (idle : (s : ℕ → Bool) (j : ℕ) → IsTrue (b.may s j 0)) (counts : ℕ → ℕ → ℤ) (n j : ℕ) (some : 0 < j)
    (low : j ≤ b.bidders) (new : holds n j ≡ false) (d : List ℕ) (best : IsSetBest b counts (holds (n + 2 ^ (j - 1))) d) where
  joined-is : IsSame (holds (n + 2 ^ (j - 1))) (joined j (holds n))
  joined-is i positive = sym (holds-joined n j i some new positive)

  behind-joined : IsSetBest b counts (joined j (holds n)) d
  behind-joined = best-same b asks counts (holds (n + 2 ^ (j - 1))) (joined j (holds n)) joined-is d best

  -- the best choice after the set with the bidder has a number for each bidder
  pub step-length : length d ≡ b.bidders
  step-length = fits-length b (holds (n + 2 ^ (j - 1))) d best.passed

  -- the best choice with a number that the bidder can be given fits after the set
  pub step-fits : (i : ℕ) → i ≤ b.bids j → IsTrue (b.may (holds n) j i) → IsTrue (fits_behind b (holds n) (set d (j - 1) i))
  step-fits i known may = fits-with b idle counts (holds n) j some low new d i known may behind-joined.passed

  -- the best choice with a number of the bidder counts that bid and what it counted
  pub step-sum : (i : ℕ) → sum_outside (holds n) counts (set d (j - 1) i) ≡ counts j i +ℤ sum_outside (holds (n + 2 ^ (j - 1))) counts d
  step-sum i =
      let count = step-length in
      sum-set (holds n) counts 0 d (j - 1) i j (omega (arith, some)) (omega (arith, some, low, count)) new
      ∙ ap (λ (z : ℤ). counts j i +ℤ z) (sym (sum_outside-same counts (holds (n + 2 ^ (j - 1))) (joined j (holds n)) joined-is d))

  -- the best choice with a number of the bidder is no worse than each in which the bidder is next with it
  pub step-best : (i : ℕ) (c : List ℕ) → IsTrue (fits_behind b (holds n) c) → Next b c (outside (joined j (holds n)) b.bidders) (holds n) j
      → number_of c j ≡ i → IsBefore (sum_outside (holds n) counts) (set d (j - 1) i) c
  step-best i c t next is = step-bound b idle counts (holds n) j some low new d i behind-joined c t next is

-- of slots, with the range of a search
module _ (slots : SlotList) (skip : ℕ) (den : ℤ) (surplus : List ℤ) (range : StaysInRange (board_without slots skip) (amount_of slots) den surplus) (n j : ℕ)
    (small : n < 2 ^ length slots.bidders) (some : 0 < j) (low : j ≤ length slots.bidders) (new : holds n j ≡ false) (d : List ℕ)
    (best : IsSetBest (board_without slots skip) (lowered den (amount_of slots) surplus) (holds (n + 2 ^ (j - 1))) d) (i : ℕ)
    (known : i ≤ (board_without slots skip).bids j) (may : IsTrue ((board_without slots skip).may (holds n) j i)) where
  -- the amount of the bid times the denominator and the bidder's surplus stay in the range together
  pub step-own : unsigned_abs den * unsigned_abs (amount_of slots j i) + unsigned_abs (of_bidder surplus j) ≤ 2 ^ 120
  step-own =
      let b = board_without slots skip in
      let counts = lowered den (amount_of slots) surplus in
      let asks = slots-ask slots skip in
      let idle = idle-always slots skip in
      let fits = step-fits b asks idle counts n j some low new d best i known may in
      let count = step-length b asks idle counts n j some low new d best in
      let own : number_of (set d (j - 1) i) j ≡ i = get_or-set_same d (j - 1) i 0 (omega (arith, count, some, low)) in
      let size = own-size b asks idle (amount_of slots) den surplus range (holds n) (set d (j - 1) i)
      (λ h past. holds-within n (length slots.bidders) h small past) fits j some low in
      subst (λ h. unsigned_abs den * unsigned_abs (amount_of slots j h) + unsigned_abs (of_bidder surplus j) ≤ 2 ^ 120) own size

  -- the sum with the number of the bidder stays in the range
  pub step-whole : unsigned_abs (sum_outside (holds n) (lowered den (amount_of slots) surplus) (set d (j - 1) i)) ≤ 2 ^ 120
  step-whole =
      let b = board_without slots skip in
      let counts = lowered den (amount_of slots) surplus in
      let asks = slots-ask slots skip in
      let idle = idle-always slots skip in
      whole-size b asks idle (amount_of slots) den surplus range (holds n) (set d (j - 1) i) (λ h past. holds-within n (length slots.bidders) h small past)
      (step-fits b asks idle counts n j some low new d best i known may)

-- a bid for the start after a set
pub starts-from : (slots : SlotList) (start j i : ℕ) → (bid_of slots j (i + 1)).start ≡ start → IsTrue (starts_at slots start j (i + 1))
starts-from slots start j i e =
    let up : i + 1 ≡ suc i = omega arith in
    subst (λ h. IsTrue (starts_at slots start j h)) (sym up) (eq-eqb (bid_of slots j (suc i)).start start (subst (λ h. (bid_of slots j h).start ≡ start) up e))

-- a bid that can be given at a start is for that start
pub starts-says : (slots : SlotList) (start j i : ℕ) → IsTrue (starts_at slots start j (i + 1)) → (bid_of slots j (i + 1)).start ≡ start
starts-says slots start j i t =
    let up : i + 1 ≡ suc i = omega arith in
    subst (λ h. (bid_of slots j h).start ≡ start) (sym up) (eqb-true (bid_of slots j (suc i)).start start
    (subst (λ h. IsTrue (starts_at slots start j h)) up t))

-- no worse than one that is no worse
pub fits-trans : (b : Board) (counts : ℕ → ℕ → ℤ) (s : ℕ → Bool) (c d e : List ℕ) → IsTrue (fits_behind b s c) → IsTrue (fits_behind b s d)
    → IsTrue (fits_behind b s e) → IsBefore (sum_outside s counts) c d → IsBefore (sum_outside s counts) d e → IsBefore (sum_outside s counts) c e
fits-trans b counts s c d e p q r =
    let x = fits-length b s c p in
    let y = fits-length b s d q in
    let z = fits-length b s e r in
    before-trans (sum_outside s counts) c d e (omega (arith, x, y)) (omega (arith, y, z))
