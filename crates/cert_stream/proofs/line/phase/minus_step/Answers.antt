use Rattle.std.proofs.Common.{◌<◌, ◌≤◌, arith}
use Rattle.wide_num.proofs.Decimal.{IsDigit}
use Rattle.cert_stream.proofs.Steps.{minus_refused, minus_digit}
use Rattle.cert_stream.proofs.line.phase.minus_step.Goals as goal

pub returns-then-not-begins_below_zero : goal.returns-then-not-begins_below_zero
returns-then-not-begins_below_zero c = λ word ns bytes at.
    let digit : IsDigit c.args.byte → 48 < c.args.byte → ⊥ = λ d some. let yes = c.begins_below_zero.ensures.1 (some, d.1) in
    cc (yes, c.if-not-begins_below_zero.true) in
    minus_refused word ns bytes c.args.byte at digit

pub returns : goal.returns
returns c = λ word ns bytes at.
    let digits : (48 < c.args.byte) × (c.args.byte ≤ 57) = c.begins_below_zero.ensures.0 c.if-not-begins_below_zero.false in
    let digit : IsDigit c.args.byte = (omega (arith, digits.0), digits.1) in
    (λ e. omega (arith, e, digit.0), minus_digit word ns bytes c.args.byte c.first.result at digit digits.0 c.first.ensures)
