-- A table over sets that obeys the rules bounds what the bidders outside each set count if they can be placed after it.
use Rattle.std.specs.Prelude.{◌≡◌, ℕ, zero, suc, ◌+◌, ◌-◌, ◌^◌, ◌≤◌, ◌<◌, Bool, true, false, cond, IsTrue, List, [], ◌∷◌, length, ℤ, pos, ◌+ℤ◌, ◌≤ℤ◌, refl}
use Rattle.std.proofs.Common.{inl, inr, sym, ◌∙◌, ap, subst, arith}
use Rattle.std.proofs.lemmas.Bool.{and_parts, cases_lt}
use Rattle.std.proofs.lemmas.Int.{ints}
use Rattle.std.proofs.lemmas.List.{set-get_or}
use Rattle.auction_model.specs.Market.{number_of, sum_after}
use Rattle.auction_model.specs.Table.{entry_at}
use Rattle.auction_model.proofs.ChoiceLaws.{known-length}
use Rattle.cert_soundness.proofs.Bounds.{counted}
use Rattle.slot_places.specs.Board.{Board, nobody, joined, outside, menu_of, is_known, can_place, is_placed}
use Rattle.slot_places.specs.SetTable.{holds, counts_outside, sum_outside}
use Rattle.slot_places.proofs.MarketLaws.{placed-number}
use Rattle.slot_places.proofs.PlaceLaws.{next-which}
use Rattle.slot_places.proofs.SameLaws.{IsSame, AsksBidders, outside-same, place-same, sum_outside-same}
use Rattle.slot_places.proofs.SetBits.{holds-joined, holds-everyone, joined-small, outside-positive, power-positive}
use Rattle.slot_places.proofs.SetLaws.{outside-joined}
use Rattle.slot_places.proofs.StepLaws.{sum-set}
use Rattle.placement_check.specs.PlaceTests.{ObeysSets}
use Rattle.placement_check.proofs.Nobody.{nobody-outside, nobody-place, nobody-sum}

-- a sum in which nobody counts
sum-none : (f : ℕ → ℕ → ℤ) (k : ℕ) (c : List ℕ) → ((j i : ℕ) → k < j → j ≤ k + length c → f j i ≡ pos 0) → sum_after f k c ≡ pos 0
sum-none f k [] all = refl
sum-none f k (i ∷ c) all =
    let own : f (suc k) i ≡ pos 0 = all (suc k) i (omega arith) (omega arith) in
    let rest = sum-none f (suc k) c (λ j h low high. all j h (omega (arith, low)) (omega (arith, high))) in
    omega (arith, ints, own, rest)

-- a bidder outside counts first, and then the others
sum-next : (s : ℕ → Bool) (counts : ℕ → ℕ → ℤ) (c : List ℕ) (j : ℕ) → 0 < j → j ≤ length c → s j ≡ false
    → sum_outside s counts c ≡ counts j (number_of c j) +ℤ sum_outside (joined j s) counts c
sum-next s counts c j some low new =
    ap (λ (d : List ℕ). sum_outside s counts d) (sym (set-get_or c (j - 1) 0))
    ∙ sum-set s counts 0 c (j - 1) (number_of c j) j (omega (arith, some)) (omega (arith, some, low)) new

-- after the set of all bidders nobody is outside, and after no other set
pub all-inside : (n bits : ℕ) → bits < 2 ^ n → outside (holds bits) n ≡ 0 → bits ≡ 2 ^ n - 1
all-inside n bits below none =
    elim (cases_lt (bits + 1) (2 ^ n)) [
      | inl short ↦ (let some = outside-positive n bits short in absurd (omega (arith, none, some)))
      | inr past ↦ omega (arith, past, below)
    ]

-- a board that asks only who is in the set, and on which a bidder can always be given 0
module _ (b : Board) (asks : AsksBidders b) (idle : (s : ℕ → Bool) (j : ℕ) → IsTrue (b.may s j 0)) (worth : ℕ → ℕ → ℤ) (table : List (List ℤ))
    (rules : ObeysSets b worth table) where
  -- the rule for a bidder outside with any number that it can be given
  next : (bits j i : ℕ) → bits < 2 ^ b.bidders → 0 < j → j ≤ b.bidders → holds bits j ≡ false → i ≤ b.bids j → IsTrue (b.may (holds bits) j i)
      → (counted worth j i +ℤ entry_at table 0 (bits + 2 ^ (j - 1))) ≤ℤ entry_at table 0 bits
  next bits j zero below some low new known may = let r = (rules bits below).none j some low new in omega (arith, ints, r)
  next bits j (suc i) below some low new known may = (rules bits below).bid j (suc i) some low new (omega arith) known may

  module _ (c : List ℕ) (known : IsTrue (is_known b c)) where
    count : length c ≡ b.bidders
    count = let e = known-length (menu_of b) 0 c known in omega (arith, e)

    -- if nobody is outside
    behind-all : (bits : ℕ) → bits < 2 ^ b.bidders → bits ≡ 2 ^ b.bidders - 1 → sum_outside (holds bits) (counted worth) c ≤ℤ entry_at table 0 bits
    behind-all bits below whole =
        let last = (rules bits below).last whole in
        let none : sum_outside (holds bits) (counted worth) c ≡ pos 0 =
        sum-none (counts_outside (holds bits) (counted worth)) 0 c
        (λ j i some low. ap (λ (t : Bool). cond t (pos 0) (counted worth j i)) (subst (λ (m : ℕ). holds m j ≡ true) (sym whole)
        (holds-everyone b.bidders j some (omega (arith, low, count))))) in
        omega (arith, ints, last, none)

    -- from the bidders that are left to one more
    behind : (left bits : ℕ) → bits < 2 ^ b.bidders → outside (holds bits) b.bidders ≡ left → IsTrue (can_place b c left (holds bits))
        → sum_outside (holds bits) (counted worth) c ≤ℤ entry_at table 0 bits
    behind zero bits below none place = behind-all bits below (all-inside b.bidders bits below none)
    behind (suc left) bits below some place =
        let q = next-which b c left (holds bits) place in
        let j = q.0 in
        let n = q.1 in
        let more = bits + 2 ^ (j - 1) in
        let fewer = outside-joined j (holds bits) b.bidders n.some n.low n.new in
        let same : IsSame (joined j (holds bits)) (holds more) = λ i positive. holds-joined bits j i n.some n.new positive in
        let count_more = outside-same (joined j (holds bits)) (holds more) b.bidders same in
        let rest : sum_outside (holds more) (counted worth) c ≤ℤ entry_at table 0 more =
        behind left more (joined-small b.bidders bits j below n.some n.low n.new) (omega (arith, some, fewer, count_more))
        (sym (place-same b asks c left (joined j (holds bits)) (holds more) same) ∙ n.rest) in
        let sums = sum-next (holds bits) (counted worth) c j n.some (omega (arith, n.low, count)) n.new in
        let moved = sum_outside-same (counted worth) (joined j (holds bits)) (holds more) same c in
        let own = next bits j (number_of c j) below n.some n.low n.new (placed-number b idle c j known n.some n.low) n.may in
        omega (arith, ints, rest, sums, moved, own)

  -- so the entry of nobody bounds each choice that can be placed
  pub placed-most : (c : List ℕ) → IsTrue (is_placed b c) → sum_after (counted worth) 0 c ≤ℤ entry_at table 0 0
  placed-most c t =
      let p = and_parts (is_known b c) (can_place b c b.bidders nobody) t in
      let bound = behind c p.0 b.bidders 0 (power-positive b.bidders) (nobody-outside b.bidders) (nobody-place b asks c ∙ p.1) in
      let sums = nobody-sum (counted worth) c in
      omega (arith, ints, bound, sums)
