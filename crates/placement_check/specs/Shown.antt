-- What a certificate has by its type, and what earlier tests show: words of private contracts.
use Rattle.std.specs.Prelude.{◌≡◌, ℕ, ◌^◌, ◌<◌, ◌≤◌, IsTrue, IsFalse, List, length, ℤ, pos, ◌-ℤ◌, ◌*ℤ◌, ◌≤ℤ◌, unsigned_abs, if◌then◌else◌}
use Rattle.auction_model.specs.Lowered.{of_bidder}
use Rattle.auction_model.specs.Market.{uses, worth_in}
use Rattle.cert_grammar.specs.Certificate.{CertValue, RowValue}
use Rattle.cert_grammar.specs.CertText.{IsRow}
use Rattle.cert_soundness.specs.MarketTests.{IsTight}
use Rattle.placement_cert.specs.Parts.{row_value}
use Rattle.placement_cert.specs.declared.certificate.PlaceCertificate.{PlaceCertificate}
use Rattle.placement_cert.specs.declared.certificate.PlaceRow.{PlaceRow}
use Rattle.slot_places.specs.Board.{board_of, market_of_slots}
use Rattle.slot_places.specs.Orders.{allows}
use Rattle.slot_places.specs.SetTable.{holds}
use Rattle.slot_places.specs.Slots.{SlotList, amount_of}
use Rattle.cert_grammar.specs.PlaceCert.{PlaceCertValue}
use Rattle.placement_check.specs.PlaceTests.{P5}

-- the certificate has as many bidders as the slots
abbrev pub IsFor : SlotList → PlaceCertificate → Type 0
IsFor slots cert = length cert.choice ≡ length slots.bidders

-- a row for as many bidders
abbrev pub IsRowFor : SlotList → PlaceRow → Type 0
IsRowFor slots row = IsRow (length slots.bidders) (row_value row)

-- the denominator times what a bidder wins stays in the range, and isn't below 0
abbrev pub HasSmallProducts : SlotList → PlaceCertValue → Type 0
HasSmallProducts slots p = (j : ℕ) → 0 < j → j ≤ length slots.bidders
    → (pos 0 ≤ℤ (p.cert.den *ℤ worth_in (market_of_slots slots) p.cert.choice j))
    × (unsigned_abs (p.cert.den *ℤ worth_in (market_of_slots slots) p.cert.choice j) < 2 ^ 120)

-- a row as P6 asks for it, with its order
pub record IsTightPlaced (slots : SlotList) (c : CertValue) (row : RowValue) (order : List ℕ) : Type 0 where
  pub tight : IsTight (market_of_slots slots) c row
  pub order_allows : IsTrue (allows slots order row.choice)

-- what a bidder gains at the payments, times the denominator
abbrev pub gain_in : SlotList → PlaceCertValue → ℕ → ℤ
gain_in slots p j = if uses p.cert.choice j then (p.cert.den *ℤ worth_in (market_of_slots slots) p.cert.choice j) -ℤ of_bidder p.cert.pay j else pos 0

-- The first five tests show it: no lowered worth of a bid that can be given after a set leaves the range.
pub record CanLower (slots : SlotList) (p : PlaceCertValue) : Type 0 where
  pub products : HasSmallProducts slots p
  pub pays : (place : ℕ) → P5 slots p place
  pub bids : (bits j i : ℕ) → bits < 2 ^ length slots.bidders → 0 < j → j ≤ length slots.bidders
      → IsFalse (holds bits j) → 0 < i
      → i ≤ (board_of slots).bids j → IsTrue ((board_of slots).may (holds bits) j i)
      → unsigned_abs (p.cert.den *ℤ amount_of slots j i) < 2 ^ 120
