use Rattle.std.proofs.Common.{rules}
use Rattle.cert_text.proofs.StageSteps.{second_first, second_second, second_done}
use Rattle.cert_text.proofs.version.take_second_version.Goals as goal

pub returns-in_err-second-clause-halts : goal.returns-in_err-second-clause-halts
returns-in_err-second-clause-halts c =
    let halts = second_first c.args.bytes.now c.in_err-second.field-0.0 c.in_err-second.ensures.halts in
    search rules

pub returns-in_err-next-clause-halts : goal.returns-in_err-next-clause-halts
returns-in_err-next-clause-halts c =
    let halts = second_second c.args.bytes.now c.in_ok-second.second c.in_ok-second.ensures.leads c.in_err-next.field-0.0 c.in_err-next.ensures.halts in
    search rules

pub returns-clause-leads : goal.returns-clause-leads
returns-clause-leads c = second_done c.args.bytes.now c.in_ok-second.second c.in_ok-second.ensures.leads c.in_ok-next.next c.in_ok-next.ensures.leads
