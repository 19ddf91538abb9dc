use Rattle.std.proofs.Common.{rules}
use Rattle.std.specs.Prelude.{map}
use Rattle.cert_text.specs.Parts.{row_value}
use Rattle.cert_grammar.specs.Lines.{counted}
use Rattle.cert_text.proofs.PlanSteps.{same_kind}
use Rattle.cert_text.proofs.StageSteps.{payment_first, payment_second, payment_third, payment_done}
use Rattle.cert_text.proofs.read.stages.take_payments.Goals as goal

pub returns-in_err-pay-clause-halts : goal.returns-in_err-pay-clause-halts
returns-in_err-pay-clause-halts c =
    let halts = payment_first c.args.bytes.now c.args.place c.args.bidders 0 c.in_err-pay.field-0.0 c.in_err-pay.ensures.halts in
    search rules

pub returns-in_err-count-clause-halts : goal.returns-in_err-count-clause-halts
returns-in_err-count-clause-halts c =
    let halts = payment_second c.args.bytes.now c.args.place c.args.bidders 0 c.in_ok-pay.pay.numbers c.in_ok-pay.pay.next c.in_ok-pay.ensures.leads
    c.in_err-count.field-0.0 (c.in_err-count.ensures.halts (counted c.args.bidders) (same_kind (counted c.args.bidders))) in
    search rules

pub returns-in_err-rows-clause-halts : goal.returns-in_err-rows-clause-halts
returns-in_err-rows-clause-halts c =
    let halts = payment_third c.args.bytes.now c.args.place c.args.bidders 0 c.in_ok-pay.pay.numbers c.in_ok-pay.pay.next c.in_ok-pay.ensures.leads
    c.in_ok-count.count.count c.in_ok-count.count.next (c.in_ok-count.ensures.leads (counted c.args.bidders) (same_kind (counted c.args.bidders)))
    c.in_err-rows.field-0.0 c.in_err-rows.ensures.halts in
    search rules

pub returns-clause-leads : goal.returns-clause-leads
returns-clause-leads c =
    payment_done c.args.bytes.now c.args.place c.args.bidders 0 c.in_ok-pay.pay.numbers c.in_ok-pay.pay.next c.in_ok-pay.ensures.leads
    c.in_ok-count.count.count c.in_ok-count.count.next (c.in_ok-count.ensures.leads (counted c.args.bidders) (same_kind (counted c.args.bidders)))
    (map row_value c.in_ok-rows.rows.rows) c.in_ok-rows.rows.next c.in_ok-rows.ensures.count c.in_ok-rows.ensures.leads
