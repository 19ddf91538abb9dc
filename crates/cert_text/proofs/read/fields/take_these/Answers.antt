use Rattle.cert_text.proofs.JustThese.{these_next, these_other}
use Rattle.cert_text.proofs.read.fields.take_these.Goals as goal

pub returns-then-not-is_just-clause-halts : goal.returns-then-not-is_just-clause-halts
returns-then-not-is_just-clause-halts c =
    these_other c.args.bytes.now c.args.place c.args.word.now c.args.numbers.now c.in_ok-line.line.numbers c.in_ok-line.line.beyond c.in_ok-line.line.next
    c.in_ok-line.ensures.line c.requires.range
    (λ h. let yes = c.is_just.ensures.1 h in cc (yes, c.if-not-is_just.true))

pub returns-clause-leads : goal.returns-clause-leads
returns-clause-leads c =
    these_next c.args.bytes.now c.args.place c.args.word.now c.args.numbers.now c.in_ok-line.line.numbers c.in_ok-line.line.beyond c.in_ok-line.line.next
    c.in_ok-line.ensures.line
    (c.is_just.ensures.0 c.if-not-is_just.false)
