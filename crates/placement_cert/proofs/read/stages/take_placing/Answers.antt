use Rattle.std.proofs.Common.{rules}
use Rattle.placement_cert.proofs.OrderedSteps.{placing_first, placing_second, placing_third, placing_done}
use Rattle.placement_cert.proofs.read.stages.take_placing.Goals as goal

pub returns-in_err-head-clause-halts : goal.returns-in_err-head-clause-halts
returns-in_err-head-clause-halts c =
    let halts = placing_first c.args.bytes.now c.args.place c.args.bidders c.in_err-head.field-0.0 c.in_err-head.ensures.halts in
    search rules

pub returns-in_err-table-clause-halts : goal.returns-in_err-table-clause-halts
returns-in_err-table-clause-halts c =
    let h = c.in_ok-head.head in
    let halts = placing_second c.args.bytes.now c.args.place c.args.bidders h.order h.choice h.next c.in_ok-head.ensures.leads c.in_err-table.field-0.0
    c.in_err-table.ensures.halts in
    search rules

pub returns-in_err-parts-clause-halts : goal.returns-in_err-parts-clause-halts
returns-in_err-parts-clause-halts c =
    let h = c.in_ok-head.head in
    let t = c.in_ok-table.table in
    let halts = placing_third c.args.bytes.now c.args.place c.args.bidders h.order h.choice h.next c.in_ok-head.ensures.leads t.table t.next
    c.in_ok-table.ensures.leads c.in_err-parts.field-0.0 c.in_err-parts.ensures.halts in
    search rules

pub returns-clause-leads : goal.returns-clause-leads
returns-clause-leads c =
    let h = c.in_ok-head.head in
    let t = c.in_ok-table.table in
    placing_done c.args.bytes.now c.args.place c.args.bidders h.order h.choice h.next c.in_ok-head.ensures.leads t.table t.next c.in_ok-table.ensures.leads
    c.in_ok-parts.parts.parts c.in_ok-parts.parts.next c.in_ok-parts.ensures.leads
