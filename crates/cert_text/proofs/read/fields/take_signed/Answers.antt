use Rattle.std.proofs.Common.{◌≡◌, length, ap, ◌∙◌}
use Rattle.cert_grammar.specs.Lines.{signed}
use Rattle.cert_text.proofs.PlanSteps.{line_next, line_unfit, line_out, line_range}
use Rattle.cert_text.proofs.read.fields.take_signed.Goals as goal

pub returns-then-items-count-clause-halts : goal.returns-then-items-count-clause-halts
returns-then-items-count-clause-halts c =
    line_unfit c.args.bytes.now c.args.place c.args.word.now (signed c.args.count) c.in_ok-line.line.numbers c.in_ok-line.line.beyond c.in_ok-line.line.next
    c.in_ok-line.ensures.line
    (λ ns many same out fit. c.if-items-count.true (ap length c.items.ensures ∙ many ∙ fit))

pub returns-then-line-clause-halts : goal.returns-then-line-clause-halts
returns-then-line-clause-halts c =
    let count : length c.in_ok-line.line.numbers ≡ c.args.count = cc (c.if-items-count.false, c.items.ensures) in
    line_out c.args.bytes.now c.args.place c.args.word.now (signed c.args.count) c.in_ok-line.line.numbers c.in_ok-line.line.beyond c.in_ok-line.line.next
    c.in_ok-line.ensures.line
    c.if-line.true (λ ns many. cc (many, count))

pub returns-clause-leads : goal.returns-clause-leads
returns-clause-leads c =
    let count : length c.in_ok-line.line.numbers ≡ c.args.count = cc (c.if-items-count.false, c.items.ensures) in
    line_next c.args.bytes.now c.args.place c.args.word.now (signed c.args.count) c.in_ok-line.line.numbers c.in_ok-line.line.beyond c.in_ok-line.line.next
    c.in_ok-line.ensures.line
    c.if-line.false count

pub returns-clause-range : goal.returns-clause-range
returns-clause-range c =
    line_range c.args.bytes.now c.args.place c.args.word.now (signed c.args.count) c.in_ok-line.line.numbers c.in_ok-line.line.beyond c.in_ok-line.line.next
    c.in_ok-line.ensures.line c.if-line.false
