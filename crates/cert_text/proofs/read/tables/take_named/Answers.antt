use Rattle.std.proofs.Common.{[], ◌∷◌, rules}
use Rattle.cert_grammar.specs.Lines.{kind, these, table_plan}
use Rattle.cert_grammar.specs.CertText.{line, table_lines}
use Rattle.cert_text.proofs.PlanSteps.{halts_before, halts_then, leads_then}
use Rattle.cert_text.proofs.read.tables.take_named.Goals as goal

pub returns-in_err-next-clause-halts : goal.returns-in_err-next-clause-halts
returns-in_err-next-clause-halts c =
    let halts = halts_before c.args.bytes.now c.args.place (kind c.args.word.now (these []) ∷ []) c.in_err-next.field-0.0
    (table_plan c.args.shape.bidders c.args.shape.states) c.in_err-next.ensures.halts in
    search rules

pub returns-in_err-read-clause-halts : goal.returns-in_err-read-clause-halts
returns-in_err-read-clause-halts c =
    let halts = halts_then c.args.bytes.now c.args.place (kind c.args.word.now (these []) ∷ []) c.in_ok-next.next (line c.args.word.now [] ∷ [])
    (table_plan c.args.shape.bidders c.args.shape.states) c.in_err-read.field-0.0
    c.in_ok-next.ensures.leads c.in_err-read.ensures.halts in
    search rules

pub returns-clause-leads : goal.returns-clause-leads
returns-clause-leads c =
    leads_then c.args.bytes.now c.args.place (kind c.args.word.now (these []) ∷ []) c.in_ok-next.next (line c.args.word.now [] ∷ [])
    (table_plan c.args.shape.bidders c.args.shape.states) c.in_ok-read.read.next (table_lines c.in_ok-read.read.table)
    c.in_ok-next.ensures.leads c.in_ok-read.ensures.leads
