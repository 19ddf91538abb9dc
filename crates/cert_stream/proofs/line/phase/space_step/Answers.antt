use Rattle.std.proofs.Common.{◌≢◌, arith}
use Rattle.std.proofs.lemmas.Bool.Decides.{nat_tests}
use Rattle.wide_num.proofs.Decimal.{IsDigit}
use Rattle.cert_stream.proofs.Steps.{space_refused, space_digit}
use Rattle.cert_stream.proofs.line.phase.space_step.Goals as goal

pub returns-then-not-is_ascii_digit : goal.returns-then-not-is_ascii_digit
returns-then-not-is_ascii_digit c = λ word ns bytes at.
    let minus : c.args.byte ≢ 45 = grind (arith, nat_tests) in
    let digit : IsDigit c.args.byte → ⊥ = λ d. grind (arith, nat_tests, d.0, d.1) in
    space_refused word ns bytes c.args.byte at minus digit

pub returns : goal.returns
returns c = λ word ns bytes at.
    let digit : IsDigit c.args.byte = (grind (arith, nat_tests), grind (arith, nat_tests)) in
    (λ e. omega (arith, e, digit.0), space_digit word ns bytes c.args.byte c.first.result at digit c.first.ensures)
