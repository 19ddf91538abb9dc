use Rattle.std.proofs.Common.{List, ℕ, subst, sym}
use Rattle.cert_text.specs.Written.{lines_of_parts, AddsLines, ArePartsInRange}
use Rattle.cert_text.specs.declared.certificate.WithoutPart.{WithoutPart}
use Rattle.cert_text.proofs.Written.{lowered_range, table_range, withouts_range}
use Rattle.cert_output.specs.CertLines.{lines_to_table}
use Rattle.cert_output.proofs.WholeCert.{whole-parts}
use Rattle.cert_output.proofs.from_cert.add_cert.Goals as goal

pub add_shared-requires : goal.add_shared-requires
add_shared-requires c = table_range _ _ c.args.cert.now c.args.cert.now.rules

pub add_parts-requires : goal.add_parts-requires
add_parts-requires c = subst ArePartsInRange (sym c.items.ensures) (withouts_range _ _ c.args.cert.now c.args.cert.now.rules)

pub add_shared-requires-2 : goal.add_shared-requires-2
add_shared-requires-2 c = lowered_range _ _ c.args.cert.now c.args.cert.now.rules

pub returns : goal.returns
returns c =
    let cert = c.args.cert.now in
    whole-parts cert _ _ _ _ _ c.add_closing.new.long
    (subst (λ (l : List ℕ). AddsLines l c.add_opening.new.long (lines_to_table cert)) c.requires c.in_ok-add_opening.ensures)
    c.in_ok-add_shared.ensures
    (subst (λ (l : List WithoutPart). AddsLines c.add_shared.new.long c.add_parts.new.long (lines_of_parts l)) c.items.ensures c.in_ok-add_parts.ensures)
    c.in_ok-add_between.ensures
    c.in_ok-add_shared-2.ensures
    c.in_ok-add_closing.ensures
