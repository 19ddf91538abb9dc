use Rattle.std.proofs.Common.{rules, FitsSigned}
use Rattle.std.specs.Int.{w128}
use Rattle.std.proofs.lemmas.Int.{to_z-of_z}
use Rattle.cert_text.proofs.RowSteps.{row_done, row_first, row_second, row_third}
use Rattle.cert_text.proofs.read.rows.take_row.Goals as goal

pub returns-in_err-members-clause-halts : goal.returns-in_err-members-clause-halts
returns-in_err-members-clause-halts c =
    let halts = row_first c.args.bytes.now c.args.place c.args.bidders c.in_err-members.field-0.0 c.in_err-members.ensures.halts in
    search rules

pub returns-in_err-pair-clause-halts : goal.returns-in_err-pair-clause-halts
returns-in_err-pair-clause-halts c =
    let halts = row_second c.args.bytes.now c.args.place c.args.bidders c.in_ok-members.members.members c.in_ok-members.members.next c.in_err-pair.field-0.0
    c.in_ok-members.ensures.leads c.in_err-pair.ensures.halts in
    search rules

pub returns-in_err-choice-clause-halts : goal.returns-in_err-choice-clause-halts
returns-in_err-choice-clause-halts c =
    let halts = row_third c.args.bytes.now c.args.place c.args.bidders c.in_ok-members.members.members c.in_ok-members.members.next c.in_ok-pair.pair.first
    c.in_ok-pair.pair.second c.in_ok-pair.pair.next c.in_err-choice.field-0.0
    c.in_ok-members.ensures.leads c.in_ok-pair.ensures.leads c.in_err-choice.ensures.halts in
    search rules

pub returns-clause-leads : goal.returns-clause-leads
returns-clause-leads c =
    let f : FitsSigned w128 c.in_ok-pair.pair.first = search rules in
    let g : FitsSigned w128 c.in_ok-pair.pair.second = search rules in
    simp to_z-of_z
    (row_done c.args.bytes.now c.args.place c.args.bidders c.in_ok-members.members.members c.in_ok-members.members.next c.in_ok-pair.pair.first
    c.in_ok-pair.pair.second c.in_ok-pair.pair.next c.in_ok-choice.choice.choice c.in_ok-choice.choice.next
    c.in_ok-members.ensures.leads c.in_ok-pair.ensures.leads c.in_ok-choice.ensures.leads)
