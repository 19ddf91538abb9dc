use Rattle.std.proofs.Common.{◌∙◌, ◌∷◌, [], ◌++◌, List, ℕ, ℤ, ap, codes, subst, sym}
use Rattle.std.specs.List.{AllByRecursion}
use Rattle.cert_grammar.specs.CertText.{line}
use Rattle.cert_text.specs.Written.{bytes_of, lines_of_rows, AddsLines, IsRowInRange}
use Rattle.cert_text.specs.declared.certificate.CertRow.{CertRow}
use Rattle.cert_text.proofs.Written.{adds_both, all_rows_range}
use Rattle.cert_output.proofs.from_cert.between_text.Goals as goal

pub add_rows-requires-clause-range : goal.add_rows-requires-clause-range
add_rows-requires-clause-range c = subst (AllByRecursion IsRowInRange) (sym c.items-2.ensures) (all_rows_range _ _ c.args.cert.now c.args.cert.now.rules)

pub returns : goal.returns
returns c =
    let cert = c.args.cert.now in
    let pay = line (codes "pay") cert.pay ∷ [] in
    let rows = lines_of_rows cert.rows in
    let word = line (codes "lowered") [] ∷ [] in
    let first : AddsLines [] c.add_signed_line.new.text pay =
    subst (λ (l : List ℤ). AddsLines [] c.add_signed_line.new.text (line (codes "pay") l ∷ [])) c.items.ensures
    (c.in_ok-add_signed_line.ensures ∙ ap (λ (t : List ℕ). t ++ bytes_of (line (codes "pay") c.items.result.now ∷ [])) c.new-text.ensures) in
    let second : AddsLines c.add_signed_line.new.text c.add_rows.new.text rows =
    subst (λ (l : List CertRow). AddsLines c.add_signed_line.new.text c.add_rows.new.text (lines_of_rows l)) c.items-2.ensures c.in_ok-add_rows.ensures in
    adds_both [] c.add_signed_line.new.text c.add_signed_line-2.new.text pay (rows ++ word) first
    (adds_both c.add_signed_line.new.text c.add_rows.new.text c.add_signed_line-2.new.text rows word second c.in_ok-add_signed_line-2.ensures)
