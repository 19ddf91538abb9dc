-- What is read of a placement certificate, piece by piece.
use Rattle.std.specs.Prelude.{◌≡◌, ℕ, suc, List, [], ◌∷◌, ◌++◌, length, map, codes, ℤ, pos}
use Rattle.cert_grammar.specs.Lines.{Kind, Line, Numbers, after_numbers, chosen, kind, members, ordered_count, ordered_head, ordered_part_plan, signed}
use Rattle.cert_grammar.specs.Lines.{unless_zero}
use Rattle.cert_grammar.specs.CertText.{as_numbers, choice_line, line, table_lines}
use Rattle.cert_text.specs.PartReads.{without_line}
use Rattle.cert_text.specs.Readers.{AreChosen, Leads, Halts}
use Rattle.cert_text.specs.declared.stop.CertStop.{CertStop}
use Rattle.placement_cert.specs.PlaceText.{order_line, ordered_part_lines, ordered_row_lines}
use Rattle.placement_cert.specs.Parts.{part_value, part_order, row_value, row_order, AreParts}
use Rattle.placement_cert.specs.declared.certificate.PlaceRow.{PlaceRow}
use Rattle.placement_cert.specs.declared.certificate.PlaceWithout.{PlaceWithout}

-- an order and a choice
abbrev pub ordered_kinds : ℕ → Numbers → List Kind
ordered_kinds bidders n = kind (codes "order") (chosen bidders) ∷ kind (codes "choice") n ∷ []

abbrev pub ordered_lines : List ℕ → List ℕ → List Line
ordered_lines order choice = order_line order ∷ choice_line choice ∷ []

-- they are read at the place, whether the choice is the head's or another
abbrev pub LeadsOrdered : List ℕ → ℕ → ℕ → ℕ → List ℕ → List ℕ → Type 0
LeadsOrdered bytes place bidders next order choice =
    (n : Numbers) → AreChosen bidders n
    → Leads bytes place (ordered_kinds bidders n) next (after_numbers n (as_numbers choice)) (ordered_lines order choice)

abbrev pub HaltsOrdered : List ℕ → ℕ → ℕ → CertStop → Type 0
HaltsOrdered bytes place bidders stop = (n : Numbers) → AreChosen bidders n
    → Halts bytes place (ordered_kinds bidders n) stop

-- the lines of one part
abbrev pub own_part : PlaceWithout → List Line
own_part w = without_line w.winner ∷ order_line w.order ∷ choice_line w.choice ∷ line (codes "table") [] ∷ table_lines w.table

abbrev pub part_lines : List PlaceWithout → List Line
part_lines parts = ordered_part_lines (map part_value parts) (map part_order parts)

-- the lines of one row
abbrev pub own_row : PlaceRow → List Line
own_row r = line (codes "row") (as_numbers r.members) ∷ line (codes "mult") (r.first ∷ r.second ∷ []) ∷ ordered_lines r.order r.choice

abbrev pub row_lines : List PlaceRow → List Line
row_lines rows = ordered_row_lines (map row_value rows) (map row_order rows)

abbrev pub row_plan : ℕ → List Kind
row_plan bidders = kind (codes "row") (members bidders) ∷ kind (codes "mult") (signed 2) ∷ ordered_kinds bidders (chosen bidders)

-- the head's choice and all that comes after it for its numbers
abbrev pub placing_lines : List ℕ → List ℕ → List (List ℤ) → List PlaceWithout → List Line
placing_lines order choice table parts = order_line order ∷ choice_line choice ∷ ((line (codes "table") [] ∷ table_lines table) ++ part_lines parts)

abbrev pub placing_plan : ℕ → List Kind
placing_plan bidders = ordered_kinds bidders (ordered_head bidders)

-- the payments and the rows
abbrev pub payment_plan : ℕ → List Kind
payment_plan bidders = kind (codes "pay") (signed bidders) ∷ kind (codes "rows") (ordered_count bidders) ∷ []

abbrev pub payment_lines : List ℤ → List PlaceRow → List Line
payment_lines pay rows = line (codes "pay") pay ∷ line (codes "rows") (pos (length rows) ∷ []) ∷ row_lines rows

-- The part of bidder j is read, if its number isn't 0, and follows the parts that were there.
pub record AddsPart (bytes : List ℕ) (place bidders j number : ℕ) (old new : List PlaceWithout) (next : ℕ) : Type 0 where
  pub part : List PlaceWithout
  pub added : new ≡ old ++ part
  pub leads : Leads bytes place (unless_zero (pos number) (ordered_part_plan bidders j)) next [] (part_lines part)
  pub are : (ns : List ℕ) (rest : List PlaceWithout) → AreParts bidders (suc j) ns rest
      → AreParts bidders j (number ∷ ns) (part ++ rest)
