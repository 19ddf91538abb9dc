-- Lines of a certificate as bytes, and which numbers are in range.
use Rattle.std.specs.Prelude.{◌≡◌, ℕ, ℤ, pos, List, [], ◌∷◌, ◌++◌, codes, length, map}
use Rattle.std.specs.List.{AllByRecursion}
use Rattle.cert_grammar.specs.CertText.{as_numbers, choice_line, line, part_lines, row_lines, table_lines}
use Rattle.line_format.specs.Range.{AllInRange}
use Rattle.wide_num.specs.Range.{InRange}
use Rattle.cert_grammar.specs.Lines.{Line, spell}
use Rattle.cert_text.specs.Parts.{row_value, without_value}
use Rattle.cert_text.specs.declared.certificate.Certificate.{Certificate}
use Rattle.cert_text.specs.declared.certificate.CertRow.{CertRow}
use Rattle.cert_text.specs.declared.certificate.WithoutPart.{WithoutPart}

-- lines, each with its line feed
abbrev pub bytes_of : List Line → List ℕ
bytes_of [] = []
bytes_of (l ∷ ls) = spell l ++ 10 ∷ bytes_of ls

-- a line of a table, with its line feed
abbrev pub line_bytes : List ℤ → List ℕ
line_bytes numbers = bytes_of (line (codes "t") numbers ∷ [])

-- the text after is the text before with these lines added
abbrev pub AddsLines : List ℕ → List ℕ → List Line → Type 0
AddsLines before behind ls = behind ≡ before ++ bytes_of ls

-- the denominator, the value and the winning choice
abbrev pub lines_of_head : Certificate → List Line
lines_of_head c = line (codes "den") (c.den ∷ []) ∷ line (codes "value") (c.value ∷ []) ∷ choice_line c.choice ∷ []

-- the word of a table, and its lines
abbrev pub lines_of_table : List ℕ → List (List ℤ) → List Line
lines_of_table word table = line word [] ∷ table_lines table

abbrev pub lines_of_parts : List WithoutPart → List Line
lines_of_parts parts = part_lines (map without_value parts)

abbrev pub lines_of_part : WithoutPart → List Line
lines_of_part w = line (codes "without") (pos w.winner ∷ []) ∷ choice_line w.choice ∷ lines_of_table (codes "table") w.table

abbrev pub lines_of_row : CertRow → List Line
lines_of_row r = line (codes "row") (as_numbers r.members) ∷ line (codes "mult") (r.first ∷ r.second ∷ []) ∷ choice_line r.choice ∷ []

-- how many rows there are, and the rows
abbrev pub lines_of_rows : List CertRow → List Line
lines_of_rows rows = line (codes "rows") (pos (length rows) ∷ []) ∷ row_lines (map row_value rows)

abbrev pub IsTableInRange : List (List ℤ) → Type 0
IsTableInRange table = AllByRecursion AllInRange table

abbrev pub ArePartsInRange : List WithoutPart → Type 0
ArePartsInRange parts = AllByRecursion (λ w. IsTableInRange w.table) parts

abbrev pub IsRowInRange : CertRow → Type 0
IsRowInRange r = InRange r.first × InRange r.second
