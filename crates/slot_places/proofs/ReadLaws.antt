-- What a bidder and a bid of the fields are in the slots.
use Rattle.std.specs.Prelude.{◌≡◌, ℕ, zero, suc, ◌+◌, ◌-◌, ◌≤◌, ◌<◌, Bool, true, false, cond, length, get_or, map}
use Rattle.std.proofs.Common.{sym, ◌∙◌, ap, subst, arith}
use Rattle.auction_model.specs.Lowered.{sum_to}
use Rattle.std.proofs.lemmas.List.{get_or-map, length-map}
use Rattle.slot_places.specs.Slots.{SlotList, SlotBidder, no_bid, no_bidder, bidder_of, bids_of, bid_of, width_of}
use Rattle.slot_places.specs.Kept.{AreSlots}
use Rattle.slot_places.specs.declared.slots.Place.{Place}
use Rattle.slot_places.specs.declared.slots.BandBidder.{BandBidder}
use Rattle.slot_places.specs.declared.slots.Slots.TheInside.{Inside}
use Rattle.slot_places.proofs.SizeLaws.{sum_to-term}
use Rattle.slot_places.specs.Fields.{bid_value, bidder_value, slots_value}

-- there are as many bidders in the slots as in the fields
pub bidders-read : (s : Inside) (slots : SlotList) → slots_value s ≡ slots → length s.bidders.items ≡ length slots.bidders
bidders-read s slots is = sym (length-map s.bidders.items bidder_value) ∙ ap (λ (x : SlotList). length x.bidders) is

module _ (s : Inside) (slots : SlotList) (is : slots_value s ≡ slots) (j : ℕ) (known : j ≤ length s.bidders.items) (some : zero < j) (bidder : BandBidder)
    (read : bidder ≡ get_or s.bidders.items (j - 1) bidder) where
  -- a bidder that is read from the fields is the bidder of the slots
  pub bidder-read : bidder_of slots j ≡ bidder_value bidder
  bidder-read =
      let inside : j - 1 < length s.bidders.items = omega (arith, known, some) in
      let one : bidder_of (slots_value s) j ≡ bidder_value (get_or s.bidders.items (j - 1) bidder) =
      get_or-map bidder_value s.bidders.items (j - 1) bidder no_bidder inside in
      ap (λ x. bidder_of x j) (sym is) ∙ one ∙ ap bidder_value (sym read)

  -- its bids are those of the slots
  pub bids-read : bids_of slots j ≡ map bid_value bidder.places.items
  bids-read = ap (λ (x : SlotBidder). x.bids) bidder-read

  -- it has as many bids as in the slots
  pub count-read : length (bids_of slots j) ≡ length bidder.places.items
  count-read = ap length bids-read ∙ length-map _ _

  -- it has at most 40 bids
  pub count-most : AreSlots (slots_value s) → length bidder.places.items ≤ 40
  count-most kept =
      let all : AreSlots slots = subst AreSlots is kept in
      let few = (all.bidders j some (let e = bidders-read s slots is in omega (arith, known, e))).few in
      omega (arith, few, count-read)

  -- a bid that is read from its fields is the bid of the slots
  pub bid-at : (i : ℕ) (p : Place) → zero < i → i ≤ length bidder.places.items → p ≡ get_or bidder.places.items (i - 1) p → bid_of slots j i ≡ bid_value p
  bid-at zero p low high r = absurd (omega (arith, low))
  bid-at (suc i) p low high r =
      let down : suc i - 1 ≡ i = omega arith in
      ap (λ l. get_or l i no_bid) bids-read ∙ get_or-map bid_value bidder.places.items i p no_bid (omega (arith, high)) ∙ ap bid_value (sym (rw down at r))

-- widths stay within the band
part-most : (f g : ℕ → ℕ) (n : ℕ) → ((j : ℕ) → f j ≤ g j) → sum_to f n ≤ sum_to g n
part-most f g zero low = omega arith
part-most f g (suc n) low = let rest = part-most f g n low in let own = low (suc n) in omega (arith, rest, own)

first-most : (g : ℕ → ℕ) (n m : ℕ) → sum_to g n ≤ sum_to g (n + m)
first-most g n zero = let e : n + 0 ≡ n = omega arith in subst (λ k. sum_to g n ≤ sum_to g k) (sym e) (omega arith)
first-most g n (suc m) = let rest = first-most g n m in let e : n + suc m ≡ suc (n + m) = omega arith in
    subst (λ k. sum_to g n ≤ sum_to g k) (sym e) (omega (arith, rest))

cond-most : (x : Bool) (w : ℕ) → cond x w 0 ≤ w
cond-most true w = omega arith
cond-most false w = omega arith

-- the bidders of a set up to one are at most 40 slots wide together
pub widths-to : (slots : SlotList) → AreSlots slots → (s : ℕ → Bool) (k : ℕ) → k ≤ length slots.bidders → sum_to (λ j. cond (s j) (width_of slots j) 0) k ≤ 40
widths-to slots kept s k low =
    let a = part-most (λ j. cond (s j) (width_of slots j) 0) (width_of slots) k (λ j. cond-most (s j) (width_of slots j)) in
    let e : k + (length slots.bidders - k) ≡ length slots.bidders = omega (arith, low) in
    let b : sum_to (width_of slots) k ≤ sum_to (width_of slots) (length slots.bidders) = subst (λ n. sum_to (width_of slots) k ≤ sum_to (width_of slots) n) e
    (first-most (width_of slots) k (length slots.bidders - k)) in
    omega (arith, a, b, kept.widths, kept.band.1)

-- no bidder is wider than 40 slots
pub width-one : (slots : SlotList) → AreSlots slots → (j : ℕ) → 0 < j → j ≤ length slots.bidders → width_of slots j ≤ 40
width-one slots kept j some low = let a = sum_to-term (width_of slots) (length slots.bidders) j some low in omega (arith, a, kept.widths, kept.band.1)
