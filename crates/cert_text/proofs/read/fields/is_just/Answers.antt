use Rattle.std.proofs.Common.{IsTrue, subst, sym, ◌∙◌}
use Rattle.std.specs.Cmp.Rules.{signed_items}
use Rattle.cert_text.proofs.read.fields.is_just.Goals as goal

pub returns : goal.returns
returns c =
    let d = signed_items c.items.result.now c.args.numbers.now in
    (λ t. (c.if-line.false, sym c.items.ensures ∙ d.0 (subst IsTrue c.eq.ensures t)), λ h. subst IsTrue (sym c.eq.ensures) (d.1 (c.items.ensures ∙ h.1)))
