use Rattle.std.proofs.Common.{◌∙◌, ap, subst, sym, ◌++◌, List, ℕ, ℤ}
use Rattle.std.specs.List.{AllByRecursion}
use Rattle.cert_text.specs.Written.{bytes_of, AddsLines}
use Rattle.placement_cert.specs.PlaceReads.{part_lines, payment_lines}
use Rattle.placement_cert.specs.Written.{lines_of_head, ArePartsInRange, IsRowInRange}
use Rattle.placement_cert.specs.declared.certificate.PlaceRow.{PlaceRow}
use Rattle.placement_cert.specs.declared.certificate.PlaceWithout.{PlaceWithout}
use Rattle.placement_cert.proofs.Written.{all_rows_range, lowered_range, table_range, whole_places, withouts_range}
use Rattle.placement_cert.proofs.write.write_places.Goals as goal

pub add_table-requires : goal.add_table-requires
add_table-requires c = table_range _ c.args.cert.now c.args.cert.now.rules

pub add_parts-requires : goal.add_parts-requires
add_parts-requires c = subst ArePartsInRange (sym c.items.ensures) (withouts_range _ c.args.cert.now c.args.cert.now.rules)

pub add_payments-requires-clause-range : goal.add_payments-requires-clause-range
add_payments-requires-clause-range c = subst (AllByRecursion IsRowInRange) (sym c.items-3.ensures) (all_rows_range _ c.args.cert.now c.args.cert.now.rules)

pub add_table-requires-2 : goal.add_table-requires-2
add_table-requires-2 c = lowered_range _ c.args.cert.now c.args.cert.now.rules

pub returns : goal.returns
returns c =
    let cert = c.args.cert.now in
    whole_places cert _ _ _ _ _ c.add_signed_line.new.text
    (c.in_ok-add_head.ensures ∙ ap (λ (t : List ℕ). t ++ bytes_of (lines_of_head cert)) c.new-text.ensures)
    c.in_ok-add_table.ensures
    (subst (λ (l : List PlaceWithout). AddsLines c.add_table.new.text c.add_parts.new.text (part_lines l)) c.items.ensures c.in_ok-add_parts.ensures)
    (subst (λ (l : List PlaceRow). AddsLines c.add_parts.new.text c.add_payments.new.text (payment_lines cert.pay l)) c.items-3.ensures
    (subst (λ (l : List ℤ). AddsLines c.add_parts.new.text c.add_payments.new.text (payment_lines l c.items-3.result.now)) c.items-2.ensures
    c.in_ok-add_payments.ensures))
    c.in_ok-add_table-2.ensures
    c.in_ok-add_signed_line.ensures
