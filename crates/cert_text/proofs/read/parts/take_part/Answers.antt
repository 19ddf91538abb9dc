use Rattle.std.proofs.Common.{rules}
use Rattle.cert_text.proofs.PartSteps.{part_done, part_first, part_second, part_third}
use Rattle.cert_text.proofs.read.parts.take_part.Goals as goal

pub returns-in_err-next-clause-halts : goal.returns-in_err-next-clause-halts
returns-in_err-next-clause-halts c =
    let halts = part_first c.args.bytes.now c.args.place c.args.shape.bidders c.args.shape.states c.args.winner c.in_err-next.field-0.0
    c.in_err-next.ensures.halts in
    search rules

pub returns-in_err-read-clause-halts : goal.returns-in_err-read-clause-halts
returns-in_err-read-clause-halts c =
    let halts = part_second c.args.bytes.now c.args.place c.args.shape.bidders c.args.shape.states c.args.winner c.in_ok-next.next c.in_err-read.field-0.0
    c.in_ok-next.ensures.leads c.in_err-read.ensures.halts in
    search rules

pub returns-in_err-table-clause-halts : goal.returns-in_err-table-clause-halts
returns-in_err-table-clause-halts c =
    let halts = part_third c.args.bytes.now c.args.place c.args.shape.bidders c.args.shape.states c.args.winner c.in_ok-next.next c.in_ok-read.read.choice
    c.in_ok-read.read.next c.in_err-table.field-0.0
    c.in_ok-next.ensures.leads c.in_ok-read.ensures.leads c.in_err-table.ensures.halts in
    search rules

pub returns-clause-leads : goal.returns-clause-leads
returns-clause-leads c =
    part_done c.args.bytes.now c.args.place c.args.shape.bidders c.args.shape.states c.args.winner c.in_ok-next.next c.in_ok-read.read.choice
    c.in_ok-read.read.next c.in_ok-table.table.table c.in_ok-table.table.next
    c.in_ok-next.ensures.leads c.in_ok-read.ensures.leads c.in_ok-table.ensures.leads
