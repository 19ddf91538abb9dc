use Rattle.std.proofs.Common.{inl, inr, rules}
use Rattle.cert_text.specs.Readers.{AreNotSmall}
use Rattle.cert_text.proofs.SmallNumbers.{not_small}
use Rattle.cert_text.proofs.read.fields.take_small.Goals as goal

pub returns-then-line-clause-halts : goal.returns-then-line-clause-halts
returns-then-line-clause-halts c = not_small c.args.bytes.now c.args.place c.args.word.now c.in_ok-line.line.numbers c.in_ok-line.line.beyond
    c.in_ok-line.line.next c.in_ok-line.ensures.line (inl c.if-line.true)

pub returns-clause-halts : goal.returns-clause-halts
returns-clause-halts c =
    let none : AreNotSmall c.in_ok-line.line.numbers = search rules in
    not_small c.args.bytes.now c.args.place c.args.word.now c.in_ok-line.line.numbers c.in_ok-line.line.beyond c.in_ok-line.line.next
    c.in_ok-line.ensures.line (inr none)
