use Rattle.std.proofs.Common.{rules}
use Rattle.std.specs.Prelude.{map}
use Rattle.cert_text.specs.Parts.{without_value}
use Rattle.cert_text.proofs.StageSteps.{winning_first, winning_second, winning_third, winning_done}
use Rattle.cert_text.proofs.read.stages.take_winning.Goals as goal

pub returns-in_err-head-clause-halts : goal.returns-in_err-head-clause-halts
returns-in_err-head-clause-halts c =
    let halts = winning_first c.args.bytes.now c.args.place c.args.shape.bidders c.args.shape.states c.in_err-head.field-0.0 c.in_err-head.ensures.halts in
    search rules

pub returns-in_err-table-clause-halts : goal.returns-in_err-table-clause-halts
returns-in_err-table-clause-halts c =
    let halts = winning_second c.args.bytes.now c.args.place c.args.shape.bidders c.args.shape.states c.in_ok-head.head.choice c.in_ok-head.head.next
    c.in_ok-head.ensures.leads c.in_err-table.field-0.0 c.in_err-table.ensures.halts in
    search rules

pub returns-in_err-parts-clause-halts : goal.returns-in_err-parts-clause-halts
returns-in_err-parts-clause-halts c =
    let halts = winning_third c.args.bytes.now c.args.place c.args.shape.bidders c.args.shape.states c.in_ok-head.head.choice c.in_ok-head.head.next
    c.in_ok-head.ensures.leads c.in_ok-table.table.table c.in_ok-table.table.next c.in_ok-table.ensures.leads
    c.in_err-parts.field-0.0 c.in_err-parts.ensures.halts in
    search rules

pub returns-clause-leads : goal.returns-clause-leads
returns-clause-leads c =
    winning_done c.args.bytes.now c.args.place c.args.shape.bidders c.args.shape.states c.in_ok-head.head.choice c.in_ok-head.head.next
    c.in_ok-head.ensures.leads c.in_ok-table.table.table c.in_ok-table.table.next c.in_ok-table.ensures.leads
    (map without_value c.in_ok-parts.parts.parts) c.in_ok-parts.parts.next c.in_ok-parts.ensures.leads
