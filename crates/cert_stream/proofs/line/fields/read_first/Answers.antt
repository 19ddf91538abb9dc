use Rattle.std.proofs.Common.{arith, get_or}
use Rattle.std.proofs.lemmas.Bool.Decides.{nat_tests}
use Rattle.wide_num.proofs.Decimal.{IsDigit}
use Rattle.cert_stream.proofs.WholeFields.{field_first}
use Rattle.cert_stream.proofs.line.fields.read_first.Goals as goal

pub returns : goal.returns
returns c =
    let digit : IsDigit (get_or c.args.piece.now c.args.at 0) = (grind (arith, nat_tests), grind (arith, nat_tests)) in
    record {
      spelled = field_first c.args.piece.now c.args.at (omega arith) digit;
      from = omega arith;
      within = omega arith;
      low = omega (arith, digit);
    }
