use Rattle.std.proofs.Common.{◌≡◌, ◌+◌, ◌++◌, ◌∷◌, [], get_or, subst, sym, ap, ◌∙◌, arith}
use Rattle.std.proofs.lemmas.Bool.Decides.{nat_tests}
use Rattle.wide_num.proofs.Decimal.{AreDigits, IsDigit, digits_push, read_on, read_on-append}
use Rattle.cert_stream.specs.Tallies.{IsTally}
use Rattle.cert_stream.specs.Pieces.{between}
use Rattle.cert_stream.proofs.Runs.{between_more}
use Rattle.cert_stream.proofs.line.digits.read_wide.Goals as goal

pub loop-i-preserved : goal.loop-i-preserved
loop-i-preserved c =
    let more : between c.args.at (c.loop-i.i + 1) c.args.piece.now ≡ between c.args.at c.loop-i.i c.args.piece.now
    ++ get_or c.args.piece.now c.loop-i.i 0 ∷ [] = between_more c.args.at c.loop-i.i c.args.piece.now (omega arith) (omega arith) in
    let digit : IsDigit (get_or c.args.piece.now c.loop-i.i 0) = (grind (arith, nat_tests), grind (arith, nat_tests)) in
    record {
      digits = subst AreDigits (sym more) (digits_push (between c.args.at c.loop-i.i c.args.piece.now)
          (get_or c.args.piece.now c.loop-i.i 0) c.loop-i.invariant.digits digit);
      tally = λ value is. subst (IsTally c.more-tally.result)
          (sym (ap (read_on value) more ∙ read_on-append value (between c.args.at c.loop-i.i c.args.piece.now) (get_or c.args.piece.now c.loop-i.i 0 ∷ [])))
          (c.more-tally.ensures (read_on value (between c.args.at c.loop-i.i c.args.piece.now)) (c.loop-i.invariant.tally value is));
    }
