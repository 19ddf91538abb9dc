-- The lines of a certificate that are between its tables.
use Rattle.std.specs.Prelude.{List, [], ◌∷◌, ◌++◌, codes, length, pos}
use Rattle.cert_grammar.specs.CertText.{choice_line, line}
use Rattle.cert_grammar.specs.Lines.{Line, version_lines}
use Rattle.choices.specs.Lines.{width_of}
use Rattle.cert_text.specs.Written.{lines_of_head, lines_of_rows}
use Rattle.cert_text.specs.declared.certificate.Certificate.{Certificate}
use Rattle.cert_text.specs.declared.certificate.WithoutPart.{WithoutPart}

-- up to the word of the table
abbrev pub lines_to_table : Certificate → List Line
lines_to_table c = version_lines (length c.choice) (width_of c.table) ++ (lines_of_head c ++ line (codes "table") [] ∷ [])

-- of a part without a winner, up to the word of its table
abbrev pub lines_to_part_table : WithoutPart → List Line
lines_to_part_table w = line (codes "without") (pos w.winner ∷ []) ∷ choice_line w.choice ∷ line (codes "table") [] ∷ []

-- after the parts, up to the word of the lowered table
abbrev pub lines_to_lowered : Certificate → List Line
lines_to_lowered c = line (codes "pay") c.pay ∷ (lines_of_rows c.rows ++ line (codes "lowered") [] ∷ [])
