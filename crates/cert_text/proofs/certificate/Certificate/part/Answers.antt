use Rattle.std.proofs.Common.{◌∙◌, ◌<◌, ap, subst, List, get_or, length}
use Rattle.cert_text.specs.declared.certificate.WithoutPart.{WithoutPart}
use Rattle.cert_text.proofs.PartsFound.{part_found}
use Rattle.cert_text.proofs.certificate.Certificate.part.Goals as goal

pub returns-then-part-j-clause-found : goal.returns-then-part-j-clause-found
returns-then-part-j-clause-found c =
    let parts = c.args.self.now.withouts in
    let same = c.items-part-items.ensures in
    let inside : c.loop-part.part-index < length parts = subst (λ (l : List WithoutPart). c.loop-part.part-index < length l) same c.loop-part-test.true in
    let is = c.part-item.is ∙ ap (λ (l : List WithoutPart). get_or l c.loop-part.part-index c.part-item.result) same in
    part_found parts c.loop-part.part-index c.args.j c.part-item.result inside is c.loop-part.invariant c.if-part-j.true
