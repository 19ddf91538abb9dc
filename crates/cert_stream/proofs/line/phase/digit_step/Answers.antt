use Rattle.std.proofs.Common.{◌≡◌, ◌≢◌, arith}
use Rattle.std.specs.Prelude.{unsigned_abs}
use Rattle.std.proofs.lemmas.Bool.Decides.{nat_tests}
use Rattle.wide_num.proofs.Decimal.{IsDigit}
use Rattle.cert_stream.proofs.Steps.{digit_refused, digit_more}
use Rattle.cert_stream.proofs.line.phase.digit_step.Goals as goal
use Rattle.cert_stream.proofs.line.phase.digit_step.Goals.{then-not-is_ascii_digit-via-else-not-is_ascii_digit+then-is_zero}
use Rattle.cert_stream.proofs.line.phase.digit_step.Goals.{then-not-is_ascii_digit-via-then-not-is_ascii_digit}

pub returns-then-not-is_ascii_digit : goal.returns-then-not-is_ascii_digit
returns-then-not-is_ascii_digit c = λ word ns bytes (z, last, at).
    let space : c.args.byte ≢ 32 = grind (arith, nat_tests) in
    let feed : c.args.byte ≢ 10 = grind (arith, nat_tests) in
    let digit : IsDigit c.args.byte → unsigned_abs z ≡ 0 = λ d.
    elim c.then-not-is_ascii_digit.branch [
      | then-not-is_ascii_digit-via-then-not-is_ascii_digit w ↦ grind (arith, nat_tests, d.0, d.1)
      | then-not-is_ascii_digit-via-else-not-is_ascii_digit+then-is_zero w ↦ (w.is_zero.ensures (unsigned_abs z) last.size).0 w.if-is_zero.true
    ] in
    digit_refused word ns bytes c.args.byte z at space feed digit

pub returns : goal.returns
returns c = λ word ns bytes (z, last, at).
    let digit : IsDigit c.args.byte = (grind (arith, nat_tests), grind (arith, nat_tests)) in
    let some : unsigned_abs z ≡ 0 → ⊥ = λ none. let yes = (c.is_zero.ensures (unsigned_abs z) last.size).1 none in cc (yes, c.if-is_zero.false) in (
      λ e. omega (arith, e, digit.0),
      digit_more word ns bytes c.args.byte c.args.negative c.args.tally c.more.result z last at digit some
          (c.more.ensures (unsigned_abs z) last.size),
    )
