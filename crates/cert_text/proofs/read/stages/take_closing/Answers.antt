use Rattle.std.proofs.Common.{rules}
use Rattle.cert_text.proofs.StageSteps.{closing_first, closing_second, closing_done}
use Rattle.cert_text.proofs.read.stages.take_closing.Goals as goal

pub returns-in_err-read-clause-halts : goal.returns-in_err-read-clause-halts
returns-in_err-read-clause-halts c =
    let halts = closing_first c.args.bytes.now c.args.place c.args.shape.bidders c.args.shape.states c.in_err-read.field-0.0 c.in_err-read.ensures.halts in
    search rules

pub returns-in_err-next-clause-halts : goal.returns-in_err-next-clause-halts
returns-in_err-next-clause-halts c =
    let halts = closing_second c.args.bytes.now c.args.place c.args.shape.bidders c.args.shape.states c.in_ok-read.read.table c.in_ok-read.read.next
    c.in_ok-read.ensures.leads c.in_err-next.field-0.0 c.in_err-next.ensures.halts in
    search rules

pub returns-clause-leads : goal.returns-clause-leads
returns-clause-leads c =
    closing_done c.args.bytes.now c.args.place c.args.shape.bidders c.args.shape.states c.in_ok-read.read.table c.in_ok-read.read.next
    c.in_ok-read.ensures.leads c.in_ok-next.next c.in_ok-next.ensures.leads
