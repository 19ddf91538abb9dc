-- The pieces of a text, as they are added.
use Rattle.std.proofs.Common.{◌≡◌, ℕ, ◌+◌, ◌-◌, ◌<◌, ◌≤◌, ℤ, List, [], ◌∷◌, ◌++◌, codes, length, get_or, drop, take, refl, sym, ap, ◌∙◌, append_assoc}
use Rattle.std.proofs.lemmas.List.{append-nil, at_drop_more}
use Rattle.cert_grammar.specs.CertText.{line, table_lines}
use Rattle.cert_grammar.specs.Lines.{spell}
use Rattle.line_format.specs.Numeral.{numbers_text}
use Rattle.cert_text.specs.Written.{bytes_of, line_bytes}
use Rattle.cert_text.proofs.SpelledLaws.{next-piece}
use Rattle.cert_output.specs.TextParts.{all_bytes, part_bytes}
use Rattle.cert_output.specs.declared.part.Part.{Part}

-- the next numbers of a line, and those after them
pub numbers-split : (ns : List ℤ) (done end : ℕ) → done ≤ end
    → numbers_text (drop done ns) ≡ numbers_text (take (end - done) (drop done ns)) ++ numbers_text (drop end ns)
numbers-split ns done end on =
    sym (next-piece ns done end (numbers_text (drop done ns)) [] (numbers_text (take (end - done) (drop done ns))) on refl refl)

-- the next line of a table, and those after it
pub lines-split : (table : List (List ℤ)) (k : ℕ) → k < length table
    → bytes_of (table_lines (drop k table)) ≡ line_bytes (get_or table k []) ++ bytes_of (table_lines (drop (k + 1) table))
lines-split table k inside =
    at_drop_more (λ (l : List (List ℤ)). bytes_of (table_lines l)) table k [] inside
    ∙ sym (append_assoc (spell (line (codes "t") (get_or table k []))) (10 ∷ []) (bytes_of (table_lines (drop (k + 1) table))))

-- the next part of a text, and those after it
pub parts-split : (parts : List Part) (k : ℕ) (d : Part) → k < length parts
    → all_bytes (drop k parts) ≡ part_bytes (get_or parts k d) ++ all_bytes (drop (k + 1) parts)
parts-split parts k d inside = at_drop_more all_bytes parts k d inside

-- one part more after the others
pub part-behind : (parts : List Part) (p : Part) → all_bytes (parts ++ p ∷ []) ≡ all_bytes parts ++ part_bytes p
part-behind [] p = append-nil (part_bytes p)
part-behind (q ∷ parts) p =
    ap (λ (l : List ℕ). part_bytes q ++ l) (part-behind parts p) ∙ sym (append_assoc (part_bytes q) (all_bytes parts) (part_bytes p))
