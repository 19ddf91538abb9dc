-- The text of a certificate, from the lines between its tables and those of its tables.
use Rattle.std.proofs.Common.{◌≡◌, ℕ, List, [], ◌∷◌, ◌++◌, codes, length, refl, sym, ap, ◌∙◌, append_assoc}
use Rattle.cert_text.specs.CertValues.{cert_value}
use Rattle.cert_grammar.specs.CertText.{line, table_lines}
use Rattle.cert_grammar.specs.Lines.{Line, version_lines}
use Rattle.cert_grammar.specs.Says.{cert_text}
use Rattle.choices.specs.Lines.{width_of}
use Rattle.cert_text.specs.Written.{bytes_of, lines_of_head, lines_of_parts, lines_of_rows, AddsLines}
use Rattle.cert_text.specs.declared.certificate.Certificate.{Certificate}
use Rattle.cert_text.proofs.Written.{adds_both, bytes_append, whole_cert}
use Rattle.cert_output.specs.CertLines.{lines_to_lowered, lines_to_table}

-- lines that were added together were added one after another
adds-behind : (a c : List ℕ) (xs ys : List Line) → AddsLines a c (xs ++ ys) → AddsLines (a ++ bytes_of xs) c ys
adds-behind a c xs ys both =
    both ∙ ap (λ (t : List ℕ). a ++ t) (bytes_append xs ys) ∙ sym (append_assoc a (bytes_of xs) (bytes_of ys))

-- the parts of the text, one after another
pub whole-parts : (cert : Certificate) (a b c d e f : List ℕ) → AddsLines [] a (lines_to_table cert) → AddsLines a b (table_lines cert.table)
    → AddsLines b c (lines_of_parts cert.withouts) → AddsLines c d (lines_to_lowered cert) → AddsLines d e (table_lines cert.lowered) → AddsLines e f (line (codes "end") [] ∷ [])
    → f ≡ cert_text (cert_value cert)
whole-parts cert a b c d e f opening table parts between lowered last =
    let version = version_lines (length cert.choice) (width_of cert.table) in
    let table_word = line (codes "table") [] ∷ [] in
    let lowered_word = line (codes "lowered") [] ∷ [] in
    let pay = line (codes "pay") cert.pay ∷ [] in
    let rows = lines_of_rows cert.rows in
    let to_head : List ℕ = bytes_of version ++ bytes_of (lines_of_head cert) in
    let to_rows : List ℕ = (c ++ bytes_of pay) ++ bytes_of rows in
    let at_table : AddsLines to_head a table_word =
    adds-behind (bytes_of version) a (lines_of_head cert) table_word (adds-behind [] a version (lines_of_head cert ++ table_word) opening) in
    let at_lowered : AddsLines to_rows d lowered_word =
    adds-behind (c ++ bytes_of pay) d rows lowered_word (adds-behind c d pay (rows ++ lowered_word) between) in
    whole_cert cert (bytes_of version) to_head c (c ++ bytes_of pay) to_rows e f
    refl
    refl
    (adds_both to_head b c (table_word ++ table_lines cert.table) (lines_of_parts cert.withouts)
    (adds_both to_head a b table_word (table_lines cert.table) at_table table) parts)
    refl
    refl
    (adds_both to_rows d e lowered_word (table_lines cert.lowered) at_lowered lowered)
    last
