-- First and greatest choices with exact tables pass the tests of tables.
use Rattle.std.specs.Prelude.{◌≡◌, ℕ, ◌<◌, not, IsTrue, List, length, ◌≤ℤ◌}
use Rattle.std.proofs.Common.{arith}
use Rattle.std.proofs.lemmas.Bool.{and_parts}
use Rattle.std.proofs.lemmas.Int.{ints}
use Rattle.auction_model.specs.Greatest.{IsGreatest}
use Rattle.auction_model.specs.Lowered.{lowered}
use Rattle.auction_model.specs.Market.{uses, value_of}
use Rattle.auction_model.specs.Prices.{paid}
use Rattle.core_laws.specs.Surplus.{lowered_sum, surpluses_of}
use Rattle.cert_grammar.specs.Certificate.{WithoutValue}
use Rattle.cert_soundness.specs.Sound.{cert_point}
use Rattle.cert_soundness.proofs.Winning.{unused_from}
use Rattle.slot_places.specs.Board.{board_of, market_of_slots}
use Rattle.slot_places.specs.Orders.{allows}
use Rattle.slot_places.specs.SetTable.{IsSetTable}
use Rattle.slot_places.specs.Slots.{SlotList, amount_of}
use Rattle.slot_places.proofs.FirstOrders.{allowed-says}
use Rattle.slot_places.proofs.MarketLaws.{placed-number, slots-idle}
use Rattle.cert_grammar.specs.PlaceCert.{PlaceCertValue}
use Rattle.placement_check.specs.PlacePriced.{IsBestPlacedPart}
use Rattle.placement_check.specs.PlaceTests.{P2, P3, IsPlacedPart, P5, P9}
use Rattle.placement_check.proofs.Exact.{plain-obeys, without-obeys, lowered-obeys}
use Rattle.placement_check.proofs.FirstEntry.{whole-entry, without-entry}

-- if the order allows the choice and the value is its worth, P2 holds
pub head-choice : (slots : SlotList) (p : PlaceCertValue) → IsTrue (allows slots p.order p.cert.choice)
    → value_of (market_of_slots slots) p.cert.choice ≡ p.cert.value → (place : ℕ) → P2 slots p place
head-choice slots p allowed value place = record {
  known = λ some low. placed-number (board_of slots) (slots-idle slots) p.cert.choice place (allowed-says slots p.cert.choice p.order allowed).known some low;
  allowed = λ e. allowed;
  value = λ e. value;
}

-- if the choice is greatest, the value is its worth and the table is exact, P3 holds
pub head-table : (slots : SlotList) (p : PlaceCertValue) → IsGreatest (market_of_slots slots).allowed (value_of (market_of_slots slots)) p.cert.choice
    → value_of (market_of_slots slots) p.cert.choice ≡ p.cert.value
    → IsSetTable (board_of slots) (amount_of slots) p.cert.table → (place : ℕ) → P3 slots p place
head-table slots p greatest value exact place = record {
  rules = λ below. plain-obeys slots p.cert.table exact place below;
  top = λ e.
      let first = (whole-entry slots (amount_of slots) p.cert.table exact).reached in
      let most = greatest.greatest first.0 first.1 in
      omega (arith, ints, most, first.2, value);
}

-- the best choice without a winner, with its placement and the exact table, is a part as P4 asks for it
pub part-passes : (slots : SlotList) (j : ℕ) (part : WithoutValue) (order : List ℕ) → 0 < j → IsBestPlacedPart slots j part order
    → IsPlacedPart slots j part order
part-passes slots j part order some best =
    let both = and_parts ((market_of_slots slots).allowed part.choice) (not (uses part.choice j)) best.choice.passed in
    record {
      allowed = best.placement.allowed;
      unused = unused_from part.choice j both.1;
      rules = without-obeys slots j part.table best.table;
      top =
          let first = (without-entry slots j (amount_of slots) part.table some best.table).reached in
          let most = best.choice.greatest first.0 first.1 in
          omega (arith, ints, most, first.2);
    }

-- if payments are within the bids, no choice counts more than is paid, and the table is exact, P9 holds
pub lowered-table : (slots : SlotList) (p : PlaceCertValue) → length p.cert.pay ≡ length slots.bidders → ((place : ℕ) → P5 slots p place)
    → IsSetTable (board_of slots) (lowered p.cert.den (amount_of slots) (surpluses_of (market_of_slots slots) p.cert.choice p.cert.den p.cert.pay)) p.cert.lowered
    → ((f : List ℕ) → IsTrue ((market_of_slots slots).allowed f) → lowered_sum (market_of_slots slots) p.cert.choice (cert_point p.cert) f ≤ℤ paid (market_of_slots slots)
    (cert_point p.cert)) → (place : ℕ) → P9 slots p place
lowered-table slots p pay_is pays exact free place = record {
  rules = λ below. lowered-obeys slots p.cert p.cert.lowered pay_is pays exact place below;
  top = λ e.
      let first = (whole-entry slots (lowered p.cert.den (amount_of slots) (surpluses_of (market_of_slots slots) p.cert.choice p.cert.den p.cert.pay))
      p.cert.lowered exact).reached in
      let most = free first.0 first.1 in
      omega (arith, ints, most, first.2);
}
