use Rattle.std.proofs.Common.{sym, ◌∙◌, to_z, of_z, rules}
use Rattle.std.proofs.lemmas.Int.{to_z-of_z}
use mir.Val.{SFits}
use mir.Syntax.{w128}
use Rattle.cert_check.proofs.FieldLaws.{sizes-of}
use Rattle.cert_check.proofs.sizes.sizes_test.Goals as goal

pub returns : goal.returns
returns c = λ cert den_is value_is.
    let den_fits : SFits w128 c.args.den = search rules in
    let value_fits : SFits w128 c.args.value = search rules in
    sizes-of cert (to_z w128 (of_z w128 c.args.den)) (to_z w128 (of_z w128 c.args.value)) c.size_fault.result
    (den_is ∙ sym (to_z-of_z w128 c.args.den den_fits)) (value_is ∙ sym (to_z-of_z w128 c.args.value value_fits)) c.size_fault.ensures
