-- What slots keep as a market: its laws, sizes, and the shape of its choices and placements.
use Rattle.std.specs.Prelude.{◌≡◌, ℕ, zero, suc, ◌-◌, ◌*◌, ◌^◌, ◌<◌, ◌≤◌, Bool, IsTrue, List, [], ◌∷◌, length, ℤ, pos, ◌+ℤ◌, ◌-ℤ◌, ◌≤ℤ◌, unsigned_abs, refl}
use Rattle.std.proofs.Common.{inl, inr, sym, ◌∙◌, ap, subst, arith}
use Rattle.std.proofs.lemmas.Bool.{and_parts, cases_lt, false≢true}
use Rattle.std.proofs.lemmas.Int.{ints}
use Rattle.std.proofs.lemmas.List.{get_or_past}
use Rattle.auction_model.specs.Lawful.{IsMarket}
use Rattle.auction_model.specs.Greatest.{IsFirstGreatest}
use Rattle.auction_model.specs.Market.{Market, number_of, uses, value_of, worth_in}
use Rattle.auction_model.specs.Prices.{IsVickreyPrice, allowed_without}
use Rattle.book_price.proofs.Worths.{sum-most}
use Rattle.cert_grammar.specs.CertText.{AtMost, IsChoice}
use Rattle.core_laws.specs.Winners.{winners_in}
use Rattle.slot_places.specs.Board.{board_of, can_place, is_known, joined, market_of_slots, menu_of, nobody}
use Rattle.slot_places.specs.Kept.{AreSlots}
use Rattle.slot_places.specs.Orders.{IsPlacement, are_new}
use Rattle.slot_places.specs.Slots.{SlotBidder, SlotList, amount_of, bidder_of, bids_of, no_bidder}
use Rattle.slot_places.proofs.FirstOrders.{allowed-says}
use Rattle.slot_places.proofs.MarketLaws.{market-of_slots}
use Rattle.slot_places.proofs.OrderLaws.{new-parts}

-- an allowed choice is known
pub allowed-known : (slots : SlotList) (c : List ℕ) → IsTrue ((market_of_slots slots).allowed c) → IsTrue (is_known (board_of slots) c)
allowed-known slots c t = (and_parts (is_known (board_of slots) c) (can_place (board_of slots) c (length slots.bidders) nobody) t).0

-- slots are a lawful market
pub lawful : (slots : SlotList) → AreSlots slots → IsMarket (market_of_slots slots)
lawful slots kept = market-of_slots slots (let f = kept.few in omega (arith, f))

-- no bid is for more than the limit
bid-most : (slots : SlotList) → AreSlots slots → (j i : ℕ) → 0 < j → i ≤ length (bids_of slots j) → amount_of slots j i ≤ℤ pos (2 ^ 42)
bid-most slots kept j zero some known = omega (arith, ints)
bid-most slots kept j (suc i) some known =
    elim (cases_lt (j - 1) (length slots.bidders)) [
      | inl inside ↦ (let a = (kept.bidders j some (omega (arith, some, inside))).amounts i (omega (arith, known)) in omega (arith, ints, a))
      | inr past ↦ (
          let none : bidder_of slots j ≡ no_bidder = get_or_past slots.bidders (j - 1) no_bidder past in
          let count = ap (λ (b : SlotBidder). length b.bids) none in
          absurd (omega (arith, known, count)))
    ]

-- an allowed choice is worth at most 2^42 for each of its winners
pub value-most : (slots : SlotList) → AreSlots slots → (z : List ℕ) → IsTrue ((market_of_slots slots).allowed z)
    → value_of (market_of_slots slots) z ≤ℤ pos (winners_in z * 2 ^ 42)
value-most slots kept z t = sum-most (menu_of (board_of slots)) (amount_of slots) (λ j. refl) (bid-most slots kept) 0 z (allowed-known slots z t)

-- a placement is an order of that many bidders
new-most : (n : ℕ) (s : ℕ → Bool) (order : List ℕ) → n ≤ 65535 → IsTrue (are_new n s order) → AtMost 65535 order
new-most n s [] le t = tt
new-most n s (j ∷ order) le t = let p = new-parts n s j order t in (omega (arith, le, p.1), new-most n (joined j s) order le p.3)

-- a placement has a number of at most 65,535 for each bidder
pub order-shape : (slots : SlotList) (c order : List ℕ) → AreSlots slots → IsPlacement slots c order → IsChoice (length slots.bidders) order
order-shape slots c order kept is =
    let a = allowed-says slots c order is.allowed in
    (a.count, new-most (length slots.bidders) nobody order (let f = kept.few in omega (arith, f)) a.passes.0)

-- what a winner wins with is small, and so is its price
pub own-small : (slots : SlotList) → AreSlots slots → (z : List ℕ) → IsTrue ((market_of_slots slots).allowed z) → (j : ℕ) → 0 < j → j ≤ length slots.bidders
    → unsigned_abs (worth_in (market_of_slots slots) z j) ≤ 2 ^ 42
own-small slots kept z t j some low = let b = bid-most slots kept j (number_of z j) some ((lawful slots kept).numbers z j t some low) in omega (arith, ints, b)

-- what is left of a value without one bid fits in 128 bits
pub left-small : (all own : ℤ) → unsigned_abs all ≤ 6 * 2 ^ 42 → unsigned_abs own ≤ 2 ^ 42 → unsigned_abs (all -ℤ own) < 2 ^ 127
left-small all own p q = omega (arith, ints)

-- a Vickrey price fits in 128 bits
pub price-small : (others all own : ℤ) → unsigned_abs others ≤ 6 * 2 ^ 42 → unsigned_abs all ≤ 6 * 2 ^ 42 → unsigned_abs own ≤ 2 ^ 42
    → unsigned_abs (others -ℤ (all -ℤ own)) < 2 ^ 127
price-small others all own p q r = omega (arith, ints)

-- what the others reach without a winner, less what they win with, is its Vickrey price
pub price-is : (m : Market) (z : List ℕ) (j : ℕ) (others all own : ℤ) (c : List ℕ) → IsTrue (uses z j) → IsFirstGreatest (allowed_without m j) (value_of m) c
    → others ≡ value_of m c → all ≡ value_of m z → own ≡ worth_in m z j
    → IsVickreyPrice m z j (others -ℤ (all -ℤ own))
price-is m z j others all own c used best others_are all_is own_is = (
  λ _. record { reached = (c, best.passed, is); bound = λ d t. subst (λ (x : ℤ). value_of m d ≤ℤ x) is (best.greatest d t) },
  λ unused. absurd (false≢true (sym unused ∙ used)),
)
  where
    is : value_of m c ≡ ((others -ℤ (all -ℤ own)) +ℤ value_of m z) -ℤ worth_in m z j
    is = omega (arith, ints, others_are, all_is, own_is)
