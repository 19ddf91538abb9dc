-- What a placement certificate that pricing writes is.
use Rattle.std.specs.Prelude.{◌≡◌, ℕ, ◌<◌, ◌≤◌, IsTrue, List, length}
use Rattle.auction_model.specs.Greatest.{IsFirstGreatest, IsWinning}
use Rattle.auction_model.specs.Lowered.{lowered}
use Rattle.auction_model.specs.Market.{uses, value_of}
use Rattle.auction_model.specs.Prices.{IsCoreOutcome, SamePoint, alike, allowed_without}
use Rattle.core_laws.specs.Surplus.{surpluses_of}
use Rattle.cert_grammar.specs.Certificate.{WithoutValue, part_of, row_of}
use Rattle.cert_soundness.specs.Sound.{cert_point}
use Rattle.slot_places.specs.Board.{board_of, board_without, market_of_slots}
use Rattle.slot_places.specs.Orders.{IsPlacement}
use Rattle.slot_places.specs.SetTable.{IsSetTable}
use Rattle.slot_places.specs.Slots.{SlotList, amount_of}
use Rattle.cert_grammar.specs.PlaceCert.{PlaceCertValue, order_in_row, order_without}
use Rattle.placement_check.specs.PlaceTests.{PlacementHolds}

-- the first of the greatest choices that don't use winner j, its placement, and the exact table without bids of j
pub record IsBestPlacedPart (slots : SlotList) (j : ℕ) (part : WithoutValue) (order : List ℕ) : Type 0 where
  pub choice : IsFirstGreatest (allowed_without (market_of_slots slots) j) (value_of (market_of_slots slots)) part.choice
  pub placement : IsPlacement slots part.choice order
  pub table : IsSetTable (board_without slots j) (amount_of slots) part.table

-- All tests pass. Also the choices of the head and of the parts are the first of the greatest, each order is the placement of
-- its choice, and the tables are exact. The last table is for the worths lowered by the surpluses at the payments, and for the
-- idle worths.
pub record IsPricedPlaceCert (slots : SlotList) (p : PlaceCertValue) : Type 0 where
  pub holds : PlacementHolds slots p
  pub winning : IsWinning (market_of_slots slots) p.cert.choice
  pub placement : IsPlacement slots p.cert.choice p.order
  pub table : IsSetTable (board_of slots) (amount_of slots) p.cert.table
  pub parts : (j : ℕ) → 0 < j → j ≤ length slots.bidders → IsTrue (uses p.cert.choice j)
      → IsBestPlacedPart slots j (part_of p.cert.withouts j) (order_without p.cert.withouts p.part_orders j)
  pub row_placements : (r : ℕ) → 0 < r → r ≤ length p.cert.rows
      → IsPlacement slots (row_of p.cert.rows r).choice (order_in_row p.row_orders r)
  pub outcome : IsCoreOutcome (market_of_slots slots) alike p.cert.choice (cert_point p.cert)
  pub table_lowered : IsSetTable (board_of slots) (lowered p.cert.den (amount_of slots) (surpluses_of (market_of_slots slots) p.cert.choice p.cert.den p.cert.pay)) p.cert.lowered

-- two parts with their orders: equal choice, placement and table
pub record IsSamePlacedPart (a b : WithoutValue) (order other : List ℕ) : Type 0 where
  pub choice : a.choice ≡ b.choice
  pub placement : order ≡ other
  pub table : a.table ≡ b.table

-- Two certificates with the same choice, value, placement and table of the amounts, with the same parts, and with payments that are
-- the same fractions.
pub record IsSamePricing (slots : SlotList) (p q : PlaceCertValue) : Type 0 where
  pub choice : p.cert.choice ≡ q.cert.choice
  pub value : p.cert.value ≡ q.cert.value
  pub placement : p.order ≡ q.order
  pub table : p.cert.table ≡ q.cert.table
  pub parts : (j : ℕ) → 0 < j → j ≤ length slots.bidders → IsTrue (uses p.cert.choice j)
      → IsSamePlacedPart (part_of p.cert.withouts j) (part_of q.cert.withouts j) (order_without p.cert.withouts p.part_orders j) (order_without q.cert.withouts q.part_orders j)
  pub point : SamePoint (market_of_slots slots) (cert_point p.cert) (cert_point q.cert)
