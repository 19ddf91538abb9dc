-- The rows of a placement certificate, with the placements of their choices.
use Rattle.std.specs.Prelude.{ℕ, zero, suc, ◌-◌, ◌<◌, ◌≤◌, List, [], ◌∷◌, length, map, slice_index_or, ℤ, pos}
use Rattle.std.specs.List.{AllByRecursion}
use Rattle.std.proofs.Common.{arith}
use Rattle.std.proofs.lemmas.List.{length-map}
use Rattle.cert_grammar.specs.Certificate.{RowValue, row_of}
use Rattle.cert_grammar.specs.CertText.{AreRows}
use Rattle.cert_grammar.specs.PlaceCert.{order_in_row}
use Rattle.core_price.specs.Kept.{IsKept}
use Rattle.core_price.specs.declared.priced.PricedRow.{PricedRow}
use Rattle.placement_cert.specs.Parts.{row_order, row_value}
use Rattle.placement_cert.specs.PlaceText.{AreOrderedRows}
use Rattle.placement_cert.specs.declared.certificate.PlaceRow.{PlaceRow}
use Rattle.place_price.specs.PlacedRows.{HasAllowedChoice, IsPlacedRow}
use Rattle.place_price.proofs.Allowed.{order-shape}
use Rattle.slot_places.specs.Board.{market_of_slots}
use Rattle.slot_places.specs.Kept.{AreSlots}
use Rattle.slot_places.specs.Orders.{IsPlacement}
use Rattle.slot_places.specs.Slots.{SlotList}

-- the choices of kept rows are allowed
pub kept-allowed : (slots : SlotList) (z : List ℕ) (den : ℤ) (at : List ℤ) (rows : List PricedRow) → AllByRecursion (IsKept (market_of_slots slots) z den at) rows
    → AllByRecursion (HasAllowedChoice slots) rows
kept-allowed slots z den at [] all = tt
kept-allowed slots z den at (r ∷ rows) all = (all.0.given.allowed, kept-allowed slots z den at rows all.1)

abbrev no_row : RowValue
no_row = record { members = []; first = pos 0; second = pos 0; choice = [] }

at-place : (slots : SlotList) (rows : List PlaceRow) → AllByRecursion (IsPlacedRow slots) rows → (i : ℕ) → i < length rows
    → IsPlacement slots (slice_index_or (map row_value rows) i no_row).choice (slice_index_or (map row_order rows) i [])
at-place slots [] all i lt = absurd (omega arith)
at-place slots (r ∷ rows) all zero lt = all.0
at-place slots (r ∷ rows) all (suc i) lt = at-place slots rows all.1 i (omega (arith, lt))

-- beside each row stands the placement of its choice
pub row-placed : (slots : SlotList) (rows : List PlaceRow) → AllByRecursion (IsPlacedRow slots) rows → (r : ℕ) → 0 < r → r ≤ length (map row_value rows)
    → IsPlacement slots (row_of (map row_value rows) r).choice (order_in_row (map row_order rows) r)
row-placed slots rows all r some inside = at-place slots rows all (r - 1) (let n = length-map rows row_value in omega (arith, some, inside, n))

-- the rows with their orders have the shape that a placement certificate keeps
pub ordered-rows : (slots : SlotList) → AreSlots slots → (rows : List PlaceRow) → AllByRecursion (IsPlacedRow slots) rows
    → AreRows (length slots.bidders) (map row_value rows)
    → AreOrderedRows (length slots.bidders) (map row_value rows) (map row_order rows)
ordered-rows slots kept [] all shape = tt
ordered-rows slots kept (r ∷ rows) all shape = (shape.0, order-shape slots r.choice r.order kept all.0, ordered-rows slots kept rows all.1 shape.1)
