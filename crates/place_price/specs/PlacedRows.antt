-- The rows of pricing and the rows of a placement certificate: terms of private
-- contracts.
use Rattle.std.specs.Prelude.{IsTrue}
use Rattle.core_price.specs.declared.priced.PricedRow.{PricedRow}
use Rattle.placement_cert.specs.declared.certificate.PlaceRow.{PlaceRow}
use Rattle.slot_places.specs.Board.{market_of_slots}
use Rattle.slot_places.specs.Orders.{IsPlacement}
use Rattle.slot_places.specs.Slots.{SlotList}

abbrev pub HasAllowedChoice : SlotList → PricedRow → Type 0
HasAllowedChoice slots r = IsTrue ((market_of_slots slots).allowed r.choice)

-- its order is the placement of its choice
abbrev pub IsPlacedRow : SlotList → PlaceRow → Type 0
IsPlacedRow slots r = IsPlacement slots r.choice r.order
