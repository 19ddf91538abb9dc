-- Exact tables over sets have the shape that a placement certificate keeps, if their first entry is in range.
use Rattle.std.specs.Prelude.{ℕ, suc, ◌^◌, ◌<◌, not, List, [], ◌∷◌, length, slice_index_or, ℤ, pos, ◌≤ℤ◌, ◌<ℤ◌, refl}
use Rattle.std.proofs.Common.{arith}
use Rattle.std.proofs.lemmas.Bool.{and_parts}
use Rattle.std.proofs.lemmas.Int.{ints}
use Rattle.auction_model.specs.Market.{uses, value_of}
use Rattle.auction_model.specs.Table.{entry_at}
use Rattle.book_price.proofs.Shapes.{not_negative-small}
use Rattle.cert_grammar.specs.Certificate.{WithoutValue}
use Rattle.cert_grammar.specs.CertText.{AllInRange, InRange}
use Rattle.placement_cert.specs.PlaceText.{HasSets}
use Rattle.placement_check.specs.PlacePriced.{IsBestPlacedPart}
use Rattle.placement_check.specs.PlaceTests.{ObeysSets}
use Rattle.placement_check.proofs.Exact.{without-obeys}
use Rattle.placement_check.proofs.FirstEntry.{without-entry}
use Rattle.placement_check.proofs.SetSizes.{entry-least, entry-most}
use Rattle.slot_places.specs.Board.{Board, board_without, market_of_slots}
use Rattle.slot_places.specs.Kept.{AreSlots}
use Rattle.slot_places.specs.SetTable.{IsSetTable}
use Rattle.slot_places.specs.Slots.{SlotList, amount_of}
use Rattle.slot_places.proofs.PlainSearch.{value-small}

all-in_range : (line : List ℤ) → ((i : ℕ) → i < length line → InRange (slice_index_or line i (pos 0))) → AllInRange line
all-in_range [] small = tt
all-in_range (x ∷ line) small = (small 0 (omega arith), all-in_range line (λ i lt. small (suc i) (omega (arith, lt))))

-- an exact table that obeys the rules, with a first entry in range, has an entry in range for each set
pub sets-shape : (b : Board) (worth counts : ℕ → ℕ → ℤ) (table : List (List ℤ)) → IsSetTable b worth table → ObeysSets b counts table
    → entry_at table 0 0 <ℤ pos (2 ^ 120) → HasSets b.bidders table
sets-shape b worth counts [] exact rules first = absurd (let l = exact.lines in omega (arith, l))
sets-shape b worth counts (t ∷ u ∷ table) exact rules first = absurd (let l = exact.lines in omega (arith, l))
sets-shape b worth counts (t ∷ []) exact rules first = (refl, (exact.sets, all-in_range t small, tt))
  where
    small : (i : ℕ) → i < length t → InRange (slice_index_or t i (pos 0))
    small i lt =
        let sets = exact.sets in
        let below : i < 2 ^ b.bidders = omega (arith, lt, sets) in
        let least : pos 0 ≤ℤ entry_at (t ∷ []) 0 i = entry-least b counts (t ∷ []) rules i below in
        let most : entry_at (t ∷ []) 0 i ≤ℤ entry_at (t ∷ []) 0 0 = entry-most b counts (t ∷ []) rules i below in
        not_negative-small (slice_index_or t i (pos 0)) least (omega (arith, ints, most, first))

-- an entry that isn't above a number of the range
pub below-range : (e v : ℤ) → e ≤ℤ v → InRange v → e <ℤ pos (2 ^ 120)
below-range e v le small = omega (arith, ints)

-- the table of a best part
pub part-sets : (slots : SlotList) → AreSlots slots → (j : ℕ) (part : WithoutValue) (order : List ℕ) → 0 < j → IsBestPlacedPart slots j part order
    → HasSets (length slots.bidders) part.table
part-sets slots kept j part order some best =
    let first = (without-entry slots j (amount_of slots) part.table some best.table).reached in
    let most = best.choice.greatest first.0 first.1 in
    let value = value_of (market_of_slots slots) part.choice in
    let allowed = (and_parts ((market_of_slots slots).allowed part.choice) (not (uses part.choice j)) best.choice.passed).0 in
    sets-shape (board_without slots j) (amount_of slots) (amount_of slots) part.table best.table (without-obeys slots j part.table best.table)
    (below-range (entry_at part.table 0 0) value (omega (arith, ints, most, first.2)) (let v = value-small slots part.choice kept allowed in omega (arith, v)))
