use Rattle.std.proofs.Common.{rules}
use Rattle.placement_cert.proofs.OrderedSteps.{ordered_first, ordered_second, ordered_done}
use Rattle.placement_cert.proofs.read.pieces.take_ordered.Goals as goal

pub returns-in_err-order-clause-halts : goal.returns-in_err-order-clause-halts
returns-in_err-order-clause-halts c =
    let halts = ordered_first c.args.bytes.now c.args.place c.args.bidders c.in_err-order.field-0.0 c.in_err-order.ensures.halts in
    search rules

pub returns-in_err-choice-clause-halts : goal.returns-in_err-choice-clause-halts
returns-in_err-choice-clause-halts c =
    let halts = ordered_second c.args.bytes.now c.args.place c.args.bidders c.in_ok-order.order.next c.in_ok-order.order.numbers c.in_ok-order.ensures.leads
    c.in_err-choice.field-0.0 c.in_err-choice.ensures.halts in
    search rules

pub returns-clause-leads : goal.returns-clause-leads
returns-clause-leads c =
    ordered_done c.args.bytes.now c.args.place c.args.bidders c.in_ok-order.order.next c.in_ok-order.order.numbers c.in_ok-order.ensures.leads
    c.in_ok-choice.choice.choice c.in_ok-choice.choice.next c.in_ok-choice.ensures.leads
