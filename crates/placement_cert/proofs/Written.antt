-- What the lines of a placement certificate add to a text.
use Rattle.std.proofs.Common.{◌≡◌, ℕ, zero, suc, ◌+◌, ◌<◌, ◌≤◌, ◌^◌, pos, List, [], ◌∷◌, ◌++◌, length, codes, get_or, drop, map, sym, ap, ◌∙◌, arith}
use Rattle.std.proofs.lemmas.List.{length-map}
use Rattle.std.specs.List.{AllByRecursion}
use Rattle.line_format.proofs.NumberRuns.{one_more}
use Rattle.cert_grammar.specs.CertText.{line}
use Rattle.cert_text.specs.Written.{bytes_of, lines_of_table, AddsLines, IsTableInRange}
use Rattle.cert_text.proofs.Written.{adds_both, bytes_append, bytes_are, lines_range}
use Rattle.placement_cert.specs.PlaceText.{IsPlaceCertificate, place_lines, ordered_row_lines}
use Rattle.placement_cert.specs.PlaceSays.{place_text}
use Rattle.placement_cert.specs.Parts.{row_value, row_order, AreParts, AreRows}
use Rattle.placement_cert.specs.CertValues.{place_cert_value}
use Rattle.placement_cert.specs.PlaceReads.{own_part, own_row, part_lines, payment_lines, row_lines}
use Rattle.placement_cert.specs.Written.{lines_of_head, ArePartsInRange, IsRowInRange}
use Rattle.placement_cert.specs.declared.certificate.PlaceCertificate.{PlaceCertificate}
use Rattle.placement_cert.specs.declared.certificate.PlaceRow.{PlaceRow}
use Rattle.placement_cert.specs.declared.certificate.PlaceWithout.{PlaceWithout}

-- the next part
pub next_part : (parts : List PlaceWithout) (i : ℕ) (part : PlaceWithout) (whole before behind : List ℕ) → i < length parts → part ≡ get_or parts i part
    → before ++ bytes_of (part_lines (drop i parts)) ≡ whole
    → AddsLines before behind (own_part part) → behind ++ bytes_of (part_lines (drop (i + 1) parts)) ≡ whole
next_part parts i part whole before behind inside item so_far step =
    let others = drop (i + 1) parts in
    let split : bytes_of (part_lines (get_or parts i part ∷ others)) ≡ bytes_of (own_part part) ++ bytes_of (part_lines others) =
    ap (λ (w : PlaceWithout). bytes_of (part_lines (w ∷ others))) (sym item) ∙ bytes_append (own_part part) (part_lines others) in
    one_more (λ (l : List PlaceWithout). bytes_of (part_lines l)) parts i part whole before behind (bytes_of (own_part part)) inside split so_far step

-- the next row
pub next_row : (rows : List PlaceRow) (i : ℕ) (row : PlaceRow) (whole before behind : List ℕ) → i < length rows → row ≡ get_or rows i row
    → before ++ bytes_of (row_lines (drop i rows)) ≡ whole
    → AddsLines before behind (own_row row) → behind ++ bytes_of (row_lines (drop (i + 1) rows)) ≡ whole
next_row rows i row whole before behind inside item so_far step =
    let others = drop (i + 1) rows in
    let split : bytes_of (row_lines (get_or rows i row ∷ others)) ≡ bytes_of (own_row row) ++ bytes_of (row_lines others) =
    ap (λ (r : PlaceRow). bytes_of (row_lines (r ∷ others))) (sym item) ∙ bytes_append (own_row row) (row_lines others) in
    one_more (λ (l : List PlaceRow). bytes_of (row_lines l)) rows i row whole before behind (bytes_of (own_row row)) inside split so_far step

-- what a placement certificate keeps, for its writer
module _ (b : ℕ) where
  parts_range : (j : ℕ) (choice : List ℕ) (parts : List PlaceWithout) → AreParts b j choice parts → ArePartsInRange parts
  parts_range j [] [] h = tt
  parts_range j [] (w ∷ ws) h = absurd h
  parts_range j (zero ∷ ns) ws h = parts_range (suc j) ns ws h
  parts_range j (suc n ∷ ns) [] h = tt
  parts_range j (suc n ∷ ns) (w ∷ ws) h = (lines_range (2 ^ b) w.table h.0.table.1, parts_range (suc j) ns ws h.1)

  rows_range : (rows : List PlaceRow) → AreRows b rows → AllByRecursion IsRowInRange rows
  rows_range [] h = tt
  rows_range (r ∷ rows) h = (h.0.range, rows_range rows h.2)

  module _ (c : PlaceCertificate) (is : IsPlaceCertificate b (place_cert_value c)) where
    -- the entries of the head's table are in range
    pub table_range : IsTableInRange c.table
    table_range = lines_range (2 ^ b) c.table is.table.1

    -- the entries of the lowered table are in range
    pub lowered_range : IsTableInRange c.lowered
    lowered_range = lines_range (2 ^ b) c.lowered is.lowered.1

    -- the entries of the parts' tables are in range
    pub withouts_range : ArePartsInRange c.withouts
    withouts_range = parts_range 1 c.choice c.withouts is.withouts

    -- there are at most ten rows
    pub few_rows : length c.rows ≤ 10
    few_rows = omega (arith, length-map c.rows row_value, is.few)

    -- the multipliers of the rows are in range
    pub all_rows_range : AllByRecursion IsRowInRange c.rows
    all_rows_range = rows_range c.rows is.rows

-- the parts of a placement certificate's text, one after another
pub whole_places : (c : PlaceCertificate) (a d e g h i : List ℕ) → AddsLines [] a (lines_of_head c) → AddsLines a d (lines_of_table (codes "table") c.table)
    → AddsLines d e (part_lines c.withouts)
    → AddsLines e g (payment_lines c.pay c.rows) → AddsLines g h (lines_of_table (codes "lowered") c.lowered) → AddsLines h i (line (codes "end") [] ∷ [])
    → i ≡ place_text (place_cert_value c)
whole_places c a d e g h i head table parts payments lowered end =
    let tables = lines_of_table (codes "table") c.table ++ part_lines c.withouts in
    let last = lines_of_table (codes "lowered") c.lowered ++ line (codes "end") [] ∷ [] in
    let tail = payment_lines c.pay c.rows ++ last in
    let to_last : AddsLines g i last = adds_both g h i (lines_of_table (codes "lowered") c.lowered) (line (codes "end") [] ∷ []) lowered end in
    let to_tail : AddsLines e i tail = adds_both e g i (payment_lines c.pay c.rows) last payments to_last in
    let to_tables : AddsLines a e tables = adds_both a d e (lines_of_table (codes "table") c.table) (part_lines c.withouts) table parts in
    adds_both [] a i (lines_of_head c) (tables ++ tail) head (adds_both a e i tables tail to_tables to_tail)
    ∙ ap (λ (n : ℕ). bytes_of (lines_of_head c ++ (tables ++ line (codes "pay") c.pay ∷ line (codes "rows") (pos n ∷ []) ∷
    (ordered_row_lines (map row_value c.rows) (map row_order c.rows) ++ last)))) (sym (length-map c.rows row_value))
    ∙ sym (bytes_are 0 (place_lines (place_cert_value c)))
