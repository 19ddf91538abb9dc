use Rattle.std.proofs.Common.{◌<◌, ◌^◌, get_or, arith}
use Rattle.std.proofs.lemmas.Bool.Decides.{nat_tests}
use Rattle.wide_num.proofs.Decimal.{IsDigit}
use Rattle.cert_stream.proofs.WholeFields.{field_more}
use Rattle.cert_stream.proofs.line.fields.read_field.Goals as goal

pub loop-i-init : goal.loop-i-init
loop-i-init c = record {
  spelled = c.in-Some.ensures.spelled;
  low = omega (arith, c.in-Some.ensures.low);
}

pub loop-i-preserved : goal.loop-i-preserved
loop-i-preserved c =
    let digit : IsDigit (get_or c.args.piece.now c.loop-i.i 0) = (grind (arith, nat_tests), grind (arith, nat_tests)) in
    let some : 0 < c.loop-i.size = c.may_go_on.ensures.some c.if-not-may_go_on.false in
    let small : c.loop-i.size < 10 ^ 18 = c.may_go_on.ensures.small c.if-not-may_go_on.false in
    record {
      spelled = field_more c.args.piece.now c.args.at c.loop-i.i c.loop-i.size (omega (arith, c.in-Some.ensures.from)) (omega arith) digit some c.loop-i.invariant.spelled;
      low = omega (arith, digit.0, digit.1, small);
    }
