-- Amounts of bids.
use Rattle.std.specs.Prelude.{◌≡◌, ℕ, zero, suc, ◌^◌, ◌≤◌, ◌<◌, length, pos, refl}
use Rattle.std.proofs.Common.{inl, inr, ap, arith}
use Rattle.std.proofs.lemmas.Bool.{cases_lt}
use Rattle.std.proofs.lemmas.List.{get_or_past}
use Rattle.slot_places.specs.Kept.{AreSlots}
use Rattle.slot_places.specs.Slots.{SlotList, SlotBid, bids_of, bid_of, amount_of, no_bid}

-- a bidder has no bid with a number past its last
pub amount-past : (slots : SlotList) (j i : ℕ) → length (bids_of slots j) < i → amount_of slots j i ≡ pos 0
amount-past slots j zero past = refl
amount-past slots j (suc i) past = ap (λ (b : SlotBid). pos b.amount) (get_or_past (bids_of slots j) i no_bid (omega (arith, past)))

-- no number of a bidder has an amount above 2^42
pub amount-most : (slots : SlotList) → AreSlots slots → (j i : ℕ) → 0 < j → j ≤ length slots.bidders → (bid_of slots j i).amount ≤ 2 ^ 42
amount-most slots kept j zero some low = omega arith
amount-most slots kept j (suc i) some low =
    elim (cases_lt i (length (bids_of slots j))) [
      | inl inside ↦ (kept.bidders j some low).amounts i inside
      | inr past ↦ (let none = ap (λ (b : SlotBid). b.amount) (get_or_past (bids_of slots j) i no_bid (omega (arith, past))) in omega (arith, none))
    ]
