-- All tests together: a placement certificate that passes them is sound.
use Rattle.std.specs.Prelude.{◌≡◌, ℕ, ◌+◌, ◌^◌, ◌<◌, not, IsTrue, List, length, ℤ, pos, ◌≤ℤ◌, refl}
use Rattle.std.proofs.Common.{◌∙◌, arith}
use Rattle.std.proofs.lemmas.Bool.{and_parts, and_from}
use Rattle.std.proofs.lemmas.Int.{ints}
use Rattle.auction_model.specs.Greatest.{IsGreatest}
use Rattle.auction_model.specs.Lowered.{of_bidder}
use Rattle.auction_model.specs.Market.{sum_after, uses, value_of}
use Rattle.auction_model.specs.Prices.{alike, allowed_without, everyone, sum_over}
use Rattle.auction_model.specs.Table.{entry_at}
use Rattle.auction_model.proofs.ChoiceLaws.{known-length}
use Rattle.cert_grammar.specs.Certificate.{CertValue, part_of}
use Rattle.cert_soundness.proofs.Bounds.{counted}
use Rattle.cert_soundness.proofs.MarketOutcome.{ShowsOutcome, outcome, vickrey}
use Rattle.cert_soundness.proofs.Winning.{sum-counted, unused_to}
use Rattle.slot_places.specs.Board.{nobody, menu_of, is_known, can_place, board_of, board_without, market_of_slots}
use Rattle.slot_places.specs.Orders.{allows}
use Rattle.slot_places.specs.Slots.{SlotList, amount_of}
use Rattle.slot_places.proofs.MarketLaws.{slots-idle}
use Rattle.slot_places.proofs.NumberLaws.{idle-always}
use Rattle.slot_places.proofs.OrderLaws.{allowed-by_order}
use Rattle.slot_places.proofs.PlainSearch.{placed-without}
use Rattle.slot_places.proofs.SameLaws.{slots-ask}
use Rattle.cert_grammar.specs.PlaceCert.{PlaceCertValue, order_without}
use Rattle.placement_check.specs.PlaceSound.{IsPlaceSound}
use Rattle.placement_check.specs.PlaceTests.{ObeysSets, IsPlacedPart, PlacementHolds}
use Rattle.cert_soundness.specs.MarketPrices.{lowered_in}
use Rattle.placement_check.proofs.SetBounds.{placed-most}

-- an allowed choice has one number for each bidder
allowed-length : (slots : SlotList) (c : List ℕ) → IsTrue ((market_of_slots slots).allowed c) → length c ≡ length slots.bidders
allowed-length slots c t =
    let b = board_of slots in
    let e = known-length (menu_of b) 0 c (and_parts (is_known b c) (can_place b c b.bidders nobody) t).0 in
    omega (arith, e)

-- no allowed choice is worth more than the first entry of a table of the amounts, or counts more than that of a table of other worths
most-of : (slots : SlotList) (worth : ℕ → ℕ → ℤ) (table : List (List ℤ)) → ObeysSets (board_of slots) worth table → (d : List ℕ)
    → IsTrue ((market_of_slots slots).allowed d) → sum_after (counted worth) 0 d ≤ℤ entry_at table 0 0
most-of slots worth table rules d t = placed-most (board_of slots) (slots-ask slots 0) (slots-idle slots) worth table rules d t

-- a part's choice is greatest of those that don't use its winner
part-greatest : (slots : SlotList) (j : ℕ) (c : CertValue) (order : List ℕ) → 0 < j → IsPlacedPart slots j (part_of c.withouts j) order
    → IsGreatest (allowed_without (market_of_slots slots) j) (value_of (market_of_slots slots)) (part_of c.withouts j).choice
part-greatest slots j c order some part =
    let m = market_of_slots slots in
    let chosen = (part_of c.withouts j).choice in
    record {
      passed = and_from (m.allowed chosen) (not (uses chosen j)) (allowed-by_order slots chosen order part.allowed) (unused_to chosen j part.unused);
      greatest = λ d t.
          let bound = placed-most (board_without slots j) (slots-ask slots j) (idle-always slots j) (amount_of slots)
          (part_of c.withouts j).table part.rules d (placed-without slots j d some ∙ t) in
          let sum = sum-counted (amount_of slots) (λ i. refl) 0 d in
          let top = part.top in
          omega (arith, ints, bound, sum, top);
    }

module _ (slots : SlotList) (p : PlaceCertValue) (h : PlacementHolds slots p) where
  order-allows : IsTrue (allows slots p.order p.cert.choice)
  order-allows = (h.p2 (length slots.bidders + 1)).allowed refl

  value-is : value_of (market_of_slots slots) p.cert.choice ≡ p.cert.value
  value-is = (h.p2 (length slots.bidders + 2)).value refl

  greatest : IsGreatest (market_of_slots slots).allowed (value_of (market_of_slots slots)) p.cert.choice
  greatest = record {
    passed = allowed-by_order slots p.cert.choice p.order order-allows;
    greatest = λ d t.
        let bound = most-of slots (amount_of slots) p.cert.table (λ bits below. (h.p3 bits).rules below) d t in
        let sum = sum-counted (amount_of slots) (λ i. refl) 0 d in
        let top = (h.p3 (2 ^ length slots.bidders)).top refl in
        let value = value-is in
        omega (arith, ints, bound, sum, top, value);
  }

  shown : length p.cert.pay ≡ length slots.bidders → ShowsOutcome (market_of_slots slots) alike p.cert
  shown pay_is = record {
    none = λ j. refl;
    lengths = allowed-length slots;
    weights = λ k lt. (omega arith, omega arith);
    den_positive = (h.p1 1).den refl;
    pay_is = pay_is;
    greatest = greatest;
    value = value-is;
    parts = λ j some low wins. part-greatest slots j p.cert (order_without p.cert.withouts p.part_orders j) some ((h.p4 j).part some low wins);
    pays = h.p5;
    rows = λ place. (h.p6 place).row;
    least = h.p7;
    nearest = h.p8;
    most = λ f t.
        let bound = most-of slots (lowered_in (market_of_slots slots) p.cert) p.cert.lowered (λ bits below. (h.p9 bits).rules below) f t in
        let top = (h.p9 (2 ^ length slots.bidders)).top refl in
        let most : sum_after (counted (lowered_in (market_of_slots slots) p.cert)) 0 f ≤ℤ sum_over everyone (of_bidder p.cert.pay) (length slots.bidders) =
        omega (arith, ints, bound, top) in
        most;
  }

  -- a placement certificate that passes all tests, with a payment for each bidder, is sound
  pub sound : length p.cert.pay ≡ length slots.bidders → IsPlaceSound slots p
  sound pay_is = record {
    order = order-allows;
    greatest = greatest;
    value = value-is;
    vickrey = vickrey (market_of_slots slots) alike p.cert (shown pay_is);
    outcome = outcome (market_of_slots slots) alike p.cert (shown pay_is);
  }
