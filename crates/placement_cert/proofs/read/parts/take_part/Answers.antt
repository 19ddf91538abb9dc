use Rattle.std.proofs.Common.{[], ◌∷◌, rules}
use Rattle.std.specs.Prelude.{codes}
use Rattle.cert_grammar.specs.Lines.{chosen, kind, set_table_plan, these}
use Rattle.cert_grammar.specs.CertText.{line, table_lines}
use Rattle.cert_text.specs.PartReads.{without_kind, without_line}
use Rattle.cert_text.proofs.PlanSteps.{same_kind}
use Rattle.placement_cert.specs.PlaceReads.{ordered_kinds, ordered_lines}
use Rattle.placement_cert.proofs.ThreePieces.{first_halts, second_halts, third_halts, all_lead}
use Rattle.placement_cert.proofs.read.parts.take_part.Goals as goal

pub returns-in_err-next-clause-halts : goal.returns-in_err-next-clause-halts
returns-in_err-next-clause-halts c =
    let b = c.args.bidders in
    let halts = first_halts c.args.bytes.now c.args.place (without_kind c.args.winner ∷ []) (ordered_kinds b (chosen b))
    (kind (codes "table") (these []) ∷ set_table_plan b) c.in_err-next.field-0.0 c.in_err-next.ensures.halts in
    search rules

pub returns-in_err-read-clause-halts : goal.returns-in_err-read-clause-halts
returns-in_err-read-clause-halts c =
    let b = c.args.bidders in
    let halts = second_halts c.args.bytes.now c.args.place (without_kind c.args.winner ∷ []) (ordered_kinds b (chosen b))
    (kind (codes "table") (these []) ∷ set_table_plan b)
    c.in_ok-next.next (without_line c.args.winner ∷ []) c.in_ok-next.ensures.leads c.in_err-read.field-0.0
    (c.in_err-read.ensures.halts (chosen b) (same_kind (chosen b))) in
    search rules

pub returns-in_err-table-clause-halts : goal.returns-in_err-table-clause-halts
returns-in_err-table-clause-halts c =
    let b = c.args.bidders in
    let halts = third_halts c.args.bytes.now c.args.place (without_kind c.args.winner ∷ []) (ordered_kinds b (chosen b))
    (kind (codes "table") (these []) ∷ set_table_plan b)
    c.in_ok-next.next (without_line c.args.winner ∷ []) c.in_ok-next.ensures.leads c.in_ok-read.read.next
    (ordered_lines c.in_ok-read.read.order c.in_ok-read.read.choice) (c.in_ok-read.ensures.leads (chosen b) (same_kind (chosen b)))
    c.in_err-table.field-0.0 c.in_err-table.ensures.halts in
    search rules

pub returns-clause-leads : goal.returns-clause-leads
returns-clause-leads c =
    let b = c.args.bidders in
    all_lead c.args.bytes.now c.args.place (without_kind c.args.winner ∷ []) (ordered_kinds b (chosen b)) (kind (codes "table") (these []) ∷ set_table_plan b)
    c.in_ok-next.next (without_line c.args.winner ∷ []) c.in_ok-next.ensures.leads c.in_ok-read.read.next
    (ordered_lines c.in_ok-read.read.order c.in_ok-read.read.choice) (c.in_ok-read.ensures.leads (chosen b) (same_kind (chosen b)))
    c.in_ok-table.table.next (line (codes "table") [] ∷ table_lines c.in_ok-table.table.table) c.in_ok-table.ensures.leads
