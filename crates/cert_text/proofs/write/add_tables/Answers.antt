use Rattle.std.proofs.Common.{◌∙◌, List, subst}
use Rattle.cert_text.specs.Written.{AddsLines, lines_of_parts}
use Rattle.cert_text.specs.declared.certificate.WithoutPart.{WithoutPart}
use Rattle.cert_text.proofs.SpelledLaws.{tables-added}
use Rattle.cert_text.proofs.write.add_tables.Goals as goal

pub returns : goal.returns
returns c =
    let cert = c.args.cert.now in
    let parts : AddsLines c.add_spelled.new.text c.add_parts.new.text (lines_of_parts cert.withouts) =
    subst (λ (l : List WithoutPart). AddsLines c.add_spelled.new.text c.add_parts.new.text (lines_of_parts l)) c.items.ensures c.in_ok-add_parts.ensures in
    tables-added c.args.text.now c.add_signed_line.new.text c.add_spelled.new.text c.add_parts.new.text cert.table c.deref.result.now
    (lines_of_parts cert.withouts) c.in_ok-add_signed_line.ensures
    (c.deref.ensures.value ∙ c.in_ok-spelled.ensures) c.in_ok-add_spelled.ensures parts
