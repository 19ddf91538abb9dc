-- What the lines of a certificate add to a text.
use Rattle.std.proofs.Common.{List, [], ap, append_assoc, arith, codes, drop, get_or, length, map, pos, refl, suc, sym, zero, ℕ, ℤ, ◌++◌, ◌+◌, ◌<◌}
use Rattle.std.proofs.Common.{◌^◌, ◌∙◌, ◌∷◌, ◌≡◌, ◌≤◌}
use Rattle.std.proofs.lemmas.List.{length-map}
use Rattle.std.specs.List.{AllByRecursion}
use Rattle.line_format.specs.LineText.{text_of}
use Rattle.line_format.specs.Decimals.{decimals_text}
use Rattle.line_format.proofs.NumberRuns.{one_more}
use Rattle.line_format.specs.Numeral.{numbers_text, numeral}
use Rattle.cert_grammar.specs.CertText.{as_numbers, cert_lines, line, part_lines, row_lines, AreRows, AreTableLines, AreWithouts, IsCertificate}
use Rattle.cert_grammar.specs.Lines.{Line, over, spell, version_lines}
use Rattle.choices.specs.Lines.{width_of}
use Rattle.cert_grammar.specs.Plan.{next_place, placed}
use Rattle.cert_grammar.specs.Says.{cert_text}
use Rattle.line_format.proofs.Decimals.{decimal_numeral}
use Rattle.cert_text.specs.Parts.{row_value, without_value}
use Rattle.cert_text.specs.CertValues.{cert_value}
use Rattle.cert_text.specs.Written.{AddsLines, ArePartsInRange, IsRowInRange, IsTableInRange, bytes_of, lines_of_head, lines_of_part, lines_of_parts}
use Rattle.cert_text.specs.Written.{lines_of_rows, lines_of_table}
use Rattle.cert_text.specs.declared.certificate.Certificate.{Certificate}
use Rattle.cert_text.specs.declared.certificate.CertRow.{CertRow}
use Rattle.cert_text.specs.declared.certificate.WithoutPart.{WithoutPart}

-- the bytes of lines and others after them are those of both
pub bytes_append : (xs ys : List Line) → bytes_of (xs ++ ys) ≡ bytes_of xs ++ bytes_of ys
bytes_append [] ys = refl
bytes_append (l ∷ ls) ys = ap (λ (b : List ℕ). spell l ++ 10 ∷ b) (bytes_append ls ys) ∙ sym (append_assoc (spell l) (10 ∷ bytes_of ls) (bytes_of ys))

-- these lines, and then those
pub adds_both : (a b c : List ℕ) (xs ys : List Line) → AddsLines a b xs → AddsLines b c ys → AddsLines a c (xs ++ ys)
adds_both a b c xs ys first then = then ∙ ap (λ (t : List ℕ). t ++ bytes_of ys) first ∙ append_assoc a (bytes_of xs) (bytes_of ys)
    ∙ ap (λ (t : List ℕ). a ++ t) (sym (bytes_append xs ys))

-- small numbers in the library's digits are those of a certificate
pub small_decimals : (ns : List ℕ) → ((i : ℕ) → i < length ns → get_or ns i 0 < 2 ^ 16) → decimals_text ns ≡ numbers_text (as_numbers ns)
small_decimals [] small = refl
small_decimals (n ∷ ns) small =
    ap (λ (t : List ℕ). 32 ∷ t ++ decimals_text ns) (decimal_numeral n (omega (arith, small 0 (omega arith))))
    ∙ ap (λ (t : List ℕ). 32 ∷ numeral n ++ t) (small_decimals ns (λ i lt. small (suc i) (omega (arith, lt))))

-- a word and numbers, and their line feed
pub added_line : (text word numbers a b d : List ℕ) → a ≡ text ++ word → b ≡ a ++ numbers → d ≡ b ++ 10 ∷ [] → d ≡ text ++ ((word ++ numbers) ++ 10 ∷ [])
added_line text word numbers a b d first second third =
    third
    ∙ ap (λ (t : List ℕ). t ++ 10 ∷ []) (second ∙ ap (λ (t : List ℕ). t ++ numbers) first ∙ append_assoc text word numbers)
    ∙ append_assoc text (word ++ numbers) (10 ∷ [])

-- the next part
pub next_part : (parts : List WithoutPart) (i : ℕ) (part : WithoutPart) (whole before behind : List ℕ) → i < length parts → part ≡ get_or parts i part
    → before ++ bytes_of (part_lines (map without_value (drop i parts))) ≡ whole
    → AddsLines before behind (lines_of_part part) → behind ++ bytes_of (part_lines (map without_value (drop (i + 1) parts))) ≡ whole
next_part parts i part whole before behind inside item so_far step =
    let others = drop (i + 1) parts in
    let split : bytes_of (part_lines (map without_value (get_or parts i part ∷ others))) ≡ bytes_of (lines_of_part part)
    ++ bytes_of (part_lines (map without_value others)) =
    ap (λ (w : WithoutPart). bytes_of (part_lines (map without_value (w ∷ others)))) (sym item) ∙ bytes_append (lines_of_part part)
    (part_lines (map without_value others)) in
    one_more (λ (l : List WithoutPart). bytes_of (part_lines (map without_value l))) parts i part whole before behind
    (bytes_of (lines_of_part part)) inside split so_far step

-- the bytes of lines are their text, wherever the lines begin
pub bytes_are : (p : ℕ) (ls : List Line) → text_of (placed spell over p ls) ≡ bytes_of ls
bytes_are p [] = refl
bytes_are p (l ∷ ls) = ap (λ (b : List ℕ). spell l ++ 10 ∷ b) (bytes_are (next_place spell over p l) ls)

-- the numbers of a table are in range
pub lines_range : (s : ℕ) (table : List (List ℤ)) → AreTableLines s table → IsTableInRange table
lines_range s [] h = tt
lines_range s (t ∷ table) h = (h.1, lines_range s table h.2)

-- what a certificate keeps, for its writer
module _ (b s : ℕ) where
  parts_range : (j : ℕ) (choice : List ℕ) (parts : List WithoutPart) → AreWithouts b s j choice (map without_value parts) → ArePartsInRange parts
  parts_range j [] [] h = tt
  parts_range j [] (w ∷ ws) h = absurd h
  parts_range j (zero ∷ ns) ws h = parts_range (suc j) ns ws h
  parts_range j (suc n ∷ ns) [] h = tt
  parts_range j (suc n ∷ ns) (w ∷ ws) h = (lines_range s w.table h.0.table.1, parts_range (suc j) ns ws h.1)

  rows_range : (rows : List CertRow) → AreRows b (map row_value rows) → AllByRecursion IsRowInRange rows
  rows_range [] h = tt
  rows_range (r ∷ rows) h = (h.0.range, rows_range rows h.1)

  module _ (c : Certificate) (is : IsCertificate b s (cert_value c)) where
    -- the numbers of its table are in range
    pub table_range : IsTableInRange c.table
    table_range = lines_range s c.table is.table.1

    -- those of its lowered table are in range
    pub lowered_range : IsTableInRange c.lowered
    lowered_range = lines_range s c.lowered is.lowered.1

    -- and so are those of the tables of its parts
    pub withouts_range : ArePartsInRange c.withouts
    withouts_range = parts_range 1 c.choice c.withouts is.withouts

    -- it has at most ten rows
    pub few_rows : length c.rows ≤ 10
    few_rows = omega (arith, length-map c.rows row_value, is.few)

    -- the multipliers of its rows are in range
    pub all_rows_range : AllByRecursion IsRowInRange c.rows
    all_rows_range = rows_range c.rows is.rows

-- the parts of a certificate's text, one after another
pub whole_cert : (c : Certificate) (v a e f g h i : List ℕ) → AddsLines [] v (version_lines (length c.choice) (width_of c.table)) → AddsLines v a (lines_of_head c)
    → AddsLines a e (lines_of_table (codes "table") c.table ++ lines_of_parts c.withouts)
    → AddsLines e f (line (codes "pay") c.pay ∷ []) → AddsLines f g (lines_of_rows c.rows) → AddsLines g h (lines_of_table (codes "lowered") c.lowered)
    → AddsLines h i (line (codes "end") [] ∷ []) → i ≡ cert_text (cert_value c)
whole_cert c v a e f g h i version head to_tables pay rows lowered end =
    let first = version_lines (length c.choice) (width_of c.table) in
    let tables = lines_of_table (codes "table") c.table ++ lines_of_parts c.withouts in
    let last = lines_of_table (codes "lowered") c.lowered ++ line (codes "end") [] ∷ [] in
    let tail = (line (codes "pay") c.pay ∷ []) ++ (lines_of_rows c.rows ++ last) in
    let to_last : AddsLines g i last = adds_both g h i (lines_of_table (codes "lowered") c.lowered) (line (codes "end") [] ∷ []) lowered end in
    let to_tail : AddsLines e i tail = adds_both e f i (line (codes "pay") c.pay ∷ []) (lines_of_rows c.rows ++ last) pay
    (adds_both f g i (lines_of_rows c.rows) last rows to_last) in
    let to_head : AddsLines v i (lines_of_head c ++ (tables ++ tail)) = adds_both v a i (lines_of_head c) (tables ++ tail) head
    (adds_both a e i tables tail to_tables to_tail) in
    adds_both [] v i first (lines_of_head c ++ (tables ++ tail)) version to_head
    ∙ ap (λ (n : ℕ). bytes_of (first ++ (lines_of_head c ++ (tables ++ line (codes "pay") c.pay ∷ line (codes "rows") (pos n ∷ []) ∷
    (row_lines (map row_value c.rows) ++ last))))) (sym (length-map c.rows row_value))
    ∙ sym (bytes_are 0 (cert_lines (cert_value c)))
