-- The tests P1 to P9 of a placement certificate of slots. A test asks something at each of its places, in the order of the places, and
-- nothing at any other number. A table is one line with an entry for each set of bidders; bit j - 1 of a set stands for bidder j.
use Rattle.std.specs.Prelude.{◌≡◌, ℕ, ◌+◌, ◌-◌, ◌^◌, ◌<◌, ◌≤◌, IsTrue, IsFalse, List, length, ℤ, pos, ◌+ℤ◌, ◌≤ℤ◌, ◌⊎◌}
use Rattle.auction_model.specs.Market.{number_of, uses, value_of}
use Rattle.auction_model.specs.Lowered.{of_bidder}
use Rattle.auction_model.specs.Prices.{alike, everyone, sum_over}
use Rattle.auction_model.specs.Table.{entry_at}
use Rattle.cert_grammar.specs.Certificate.{CertValue, WithoutValue, part_of, row_of}
use Rattle.cert_soundness.specs.MarketTests.{HasTightRow, PaysWithinBids, ShowsLeastSum, ShowsNearest}
use Rattle.cert_soundness.specs.MarketPrices.{lowered_in}
use Rattle.cert_soundness.specs.Tests.{C1}
use Rattle.slot_places.specs.Board.{Board, board_of, board_without, market_of_slots}
use Rattle.slot_places.specs.Orders.{allows}
use Rattle.slot_places.specs.SetTable.{holds}
use Rattle.slot_places.specs.Slots.{SlotList, bids_of, amount_of}
use Rattle.cert_grammar.specs.PlaceCert.{PlaceCertValue, order_in_row, order_without}

-- The rules at the entry of a set, whose bidders are placed first. The entry of all bidders is not below 0. For each bidder
-- outside the set the entry is at least the entry of the set with this bidder, and at least that entry plus the worth of each
-- bid of the bidder that it can be given right after the set.
pub record ObeysSet (b : Board) (worth : ℕ → ℕ → ℤ) (table : List (List ℤ)) (bits : ℕ) : Type 0 where
  pub last : bits ≡ 2 ^ b.bidders - 1 → pos 0 ≤ℤ entry_at table 0 bits
  pub none : (j : ℕ) → 0 < j → j ≤ b.bidders → IsFalse (holds bits j)
      → entry_at table 0 (bits + 2 ^ (j - 1)) ≤ℤ entry_at table 0 bits
  pub bid : (j i : ℕ) → 0 < j → j ≤ b.bidders → IsFalse (holds bits j) → 0 < i → i ≤ b.bids j
      → IsTrue (b.may (holds bits) j i)
      → (worth j i +ℤ entry_at table 0 (bits + 2 ^ (j - 1))) ≤ℤ entry_at table 0 bits

-- the rules at the entries of all sets
abbrev pub ObeysSets : Board → (ℕ → ℕ → ℤ) → List (List ℤ) → Type 0
ObeysSets b worth table = (bits : ℕ) → bits < 2 ^ b.bidders → ObeysSet b worth table bits

abbrev pub P1 : PlaceCertValue → ℕ → Type 0
P1 p = C1 p.cert

pub record P2 (slots : SlotList) (p : PlaceCertValue) (place : ℕ) : Type 0 where
  pub known : 0 < place → place ≤ length slots.bidders → number_of p.cert.choice place ≤ length (bids_of slots place)
  pub allowed : place ≡ length slots.bidders + 1 → IsTrue (allows slots p.order p.cert.choice)
  pub value : place ≡ length slots.bidders + 2 → value_of (market_of_slots slots) p.cert.choice ≡ p.cert.value

pub record P3 (slots : SlotList) (p : PlaceCertValue) (place : ℕ) : Type 0 where
  pub rules : place < 2 ^ length slots.bidders → ObeysSet (board_of slots) (amount_of slots) p.cert.table place
  pub top : place ≡ 2 ^ length slots.bidders → entry_at p.cert.table 0 0 ≤ℤ p.cert.value

-- A part without winner j: its order allows its choice, so that this is known, the choice does not use j, and its table shows that no
-- such choice is worth more.
pub record IsPlacedPart (slots : SlotList) (j : ℕ) (part : WithoutValue) (order : List ℕ) : Type 0 where
  pub allowed : IsTrue (allows slots order part.choice)
  pub unused : number_of part.choice j ≡ 0
  pub rules : ObeysSets (board_without slots j) (amount_of slots) part.table
  pub top : entry_at part.table 0 0 ≤ℤ value_of (market_of_slots slots) part.choice

pub record P4 (slots : SlotList) (p : PlaceCertValue) (place : ℕ) : Type 0 where
  pub part : 0 < place → place ≤ length slots.bidders → IsTrue (uses p.cert.choice place)
      → IsPlacedPart slots place (part_of p.cert.withouts place) (order_without p.cert.withouts p.part_orders place)

abbrev pub P5 : SlotList → PlaceCertValue → ℕ → Type 0
P5 slots p = PaysWithinBids (market_of_slots slots) p.cert

pub record P6 (slots : SlotList) (p : PlaceCertValue) (place : ℕ) : Type 0 where
  pub row : HasTightRow (market_of_slots slots) p.cert place
  pub order : 0 < place → place ≤ length p.cert.rows
      → IsTrue (allows slots (order_in_row p.row_orders place) (row_of p.cert.rows place).choice)

abbrev pub P7 : SlotList → PlaceCertValue → ℕ → Type 0
P7 slots p = ShowsLeastSum (market_of_slots slots) p.cert

-- each bidder weighs 1
abbrev pub P8 : SlotList → PlaceCertValue → ℕ → Type 0
P8 slots p = ShowsNearest (market_of_slots slots) alike p.cert

pub record P9 (slots : SlotList) (p : PlaceCertValue) (place : ℕ) : Type 0 where
  pub rules : place < 2 ^ length slots.bidders
      → ObeysSet (board_of slots) (lowered_in (market_of_slots slots) p.cert) p.cert.lowered place
  pub top : place ≡ 2 ^ length slots.bidders
      → entry_at p.cert.lowered 0 0 ≤ℤ sum_over everyone (of_bidder p.cert.pay) (length slots.bidders)

-- what test t asks at a place
abbrev pub Asks : SlotList → PlaceCertValue → ℕ → ℕ → Type 0
Asks slots p t place =
    (t ≡ 1 → P1 p place) × (t ≡ 2 → P2 slots p place) × (t ≡ 3 → P3 slots p place) × (t ≡ 4 → P4 slots p place)
    × (t ≡ 5 → P5 slots p place)
    × (t ≡ 6 → P6 slots p place) × (t ≡ 7 → P7 slots p place) × (t ≡ 8 → P8 slots p place) × (t ≡ 9 → P9 slots p place)

-- all tests pass at all places
pub record PlacementHolds (slots : SlotList) (p : PlaceCertValue) : Type 0 where
  pub p1 : (place : ℕ) → P1 p place
  pub p2 : (place : ℕ) → P2 slots p place
  pub p3 : (place : ℕ) → P3 slots p place
  pub p4 : (place : ℕ) → P4 slots p place
  pub p5 : (place : ℕ) → P5 slots p place
  pub p6 : (place : ℕ) → P6 slots p place
  pub p7 : (place : ℕ) → P7 slots p place
  pub p8 : (place : ℕ) → P8 slots p place
  pub p9 : (place : ℕ) → P9 slots p place

-- test t at this place is the first that fails: all before it passes
pub record FailsFirst (slots : SlotList) (p : PlaceCertValue) (t place : ℕ) : Type 0 where
  pub fails : Asks slots p t place → ⊥
  pub before : (u q : ℕ) → (u < t) ⊎ ((u ≡ t) × (q < place)) → Asks slots p u q
