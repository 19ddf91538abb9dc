use Rattle.std.proofs.Common.{rules, FitsSigned}
use Rattle.std.specs.Int.{w128}
use Rattle.std.proofs.lemmas.Int.{to_z-of_z}
use Rattle.cert_text.proofs.StageSteps.{opening_first, opening_second, opening_done}
use Rattle.cert_text.proofs.read.stages.take_opening.Goals as goal

pub returns-in_err-den-clause-halts : goal.returns-in_err-den-clause-halts
returns-in_err-den-clause-halts c =
    let halts = opening_first c.args.bytes.now c.args.place c.in_err-den.field-0.0 c.in_err-den.ensures.halts in
    search rules

pub returns-in_err-value-clause-halts : goal.returns-in_err-value-clause-halts
returns-in_err-value-clause-halts c =
    let halts = opening_second c.args.bytes.now c.args.place c.in_ok-den.den.number c.in_ok-den.den.next c.in_ok-den.ensures.leads c.in_err-value.field-0.0
    c.in_err-value.ensures.halts in
    search rules

pub returns-clause-leads : goal.returns-clause-leads
returns-clause-leads c =
    let f : FitsSigned w128 c.in_ok-den.den.number = search rules in
    let g : FitsSigned w128 c.in_ok-value.value.number = search rules in
    simp to_z-of_z
    (opening_done c.args.bytes.now c.args.place c.in_ok-den.den.number c.in_ok-den.den.next c.in_ok-den.ensures.leads c.in_ok-value.value.number
    c.in_ok-value.value.next c.in_ok-value.ensures.leads)
