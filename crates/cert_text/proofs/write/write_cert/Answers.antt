use Rattle.std.proofs.lemmas.Grind.{common_steps}
use Rattle.std.proofs.Common.{◌∙◌, ap, subst, sym, ◌++◌, ◌∷◌, [], List, ℕ, ℤ, codes, length, arith}
use Rattle.std.specs.List.{AllByRecursion}
use Rattle.cert_grammar.specs.CertText.{line}
use Rattle.cert_grammar.specs.Lines.{version_lines}
use Rattle.cert_text.specs.Written.{bytes_of, lines_of_rows, AddsLines, IsRowInRange}
use Rattle.cert_text.specs.declared.certificate.CertRow.{CertRow}
use Rattle.cert_text.proofs.Written.{all_rows_range, lowered_range, table_range, whole_cert, withouts_range}
use Rattle.cert_text.proofs.write.write_cert.Goals as goal

pub add_tables-requires-clause-table : goal.add_tables-requires-clause-table
add_tables-requires-clause-table c = table_range _ _ c.args.cert.now c.args.cert.now.rules

pub add_tables-requires-clause-parts : goal.add_tables-requires-clause-parts
add_tables-requires-clause-parts c = withouts_range _ _ c.args.cert.now c.args.cert.now.rules

pub add_rows-requires-clause-range : goal.add_rows-requires-clause-range
add_rows-requires-clause-range c = subst (AllByRecursion IsRowInRange) (sym c.items-2.ensures) (all_rows_range _ _ c.args.cert.now c.args.cert.now.rules)

pub add_table-requires : goal.add_table-requires
add_table-requires c = lowered_range _ _ c.args.cert.now c.args.cert.now.rules

pub returns : goal.returns
returns c =
    let cert = c.args.cert.now in
    whole_cert cert _ _ _ _ _ _ c.add_signed_line-2.new.text
    (
    c.in_ok-add_version.ensures
    ∙ ap (λ (t : List ℕ). t ++ bytes_of (version_lines (length c.numbers.result.now) c.width.result)) c.in_ok-text.ensures
    ∙ ap (λ (l : List ℕ). bytes_of (version_lines (length l) c.width.result)) c.numbers.ensures
    ∙ ap (λ (n : ℕ). bytes_of (version_lines (length cert.choice) n)) c.width.ensures
    )
    c.in_ok-add_head.ensures
    c.in_ok-add_tables.ensures
    (subst (λ (l : List ℤ). AddsLines c.add_tables.new.text c.add_signed_line.new.text (line (codes "pay") l ∷ [])) c.items.ensures c.in_ok-add_signed_line.ensures)
    (subst (λ (l : List CertRow). AddsLines c.add_signed_line.new.text c.add_rows.new.text (lines_of_rows l)) c.items-2.ensures c.in_ok-add_rows.ensures)
    c.in_ok-add_table.ensures
    c.in_ok-add_signed_line-2.ensures

pub add_rows-requires-clause-few : goal.add_rows-requires-clause-few
add_rows-requires-clause-few c = grind (arith, common_steps)
