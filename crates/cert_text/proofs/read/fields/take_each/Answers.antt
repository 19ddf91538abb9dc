use Rattle.std.proofs.Common.{◌≡◌, length, ap, ◌∙◌}
use Rattle.cert_text.proofs.SmallNumbers.{each_next, each_other, is_choice}
use Rattle.cert_text.proofs.read.fields.take_each.Goals as goal

pub returns-then-items-bidders-clause-halts : goal.returns-then-items-bidders-clause-halts
returns-then-items-bidders-clause-halts c =
    each_other c.args.bytes.now c.args.place c.args.bidders c.in_ok-read.read.numbers c.in_ok-read.read.next c.args.word.now c.in_ok-read.ensures.line
    (λ e. c.if-items-bidders.true (ap length c.items.ensures ∙ e))

pub returns-clause-leads : goal.returns-clause-leads
returns-clause-leads c =
    let many : length c.in_ok-read.read.numbers ≡ c.args.bidders = cc (c.if-items-bidders.false, c.items.ensures) in
    each_next c.args.bytes.now c.args.place c.args.bidders c.in_ok-read.read.numbers c.in_ok-read.read.next c.args.word.now c.in_ok-read.ensures.line
    c.in_ok-read.ensures.small many

pub returns-clause-numbers : goal.returns-clause-numbers
returns-clause-numbers c =
    let many : length c.in_ok-read.read.numbers ≡ c.args.bidders = cc (c.if-items-bidders.false, c.items.ensures) in
    is_choice c.args.bidders c.in_ok-read.read.numbers c.in_ok-read.ensures.small many
