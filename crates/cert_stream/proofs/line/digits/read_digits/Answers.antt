use Rattle.std.proofs.Common.{◌≡◌, ℕ, ◌+◌, ◌-◌, ◌*◌, ◌++◌, ◌∷◌, [], get_or, subst, sym, ap, ◌∙◌, arith}
use Rattle.std.proofs.lemmas.Bool.Decides.{nat_tests}
use Rattle.wide_num.proofs.Decimal.{AreDigits, IsDigit, digits_push, read_on, read_on-append}
use Rattle.cert_stream.specs.Tallies.{IsTally}
use Rattle.cert_stream.specs.Pieces.{between}
use Rattle.cert_stream.proofs.Runs.{between_more, between_join, digits_join}
use Rattle.cert_stream.proofs.line.digits.read_digits.Goals as goal

pub loop-i-preserved : goal.loop-i-preserved
loop-i-preserved c =
    let more : between c.args.at (c.loop-i.i + 1) c.args.piece.now ≡ between c.args.at c.loop-i.i c.args.piece.now
    ++ get_or c.args.piece.now c.loop-i.i 0 ∷ [] = between_more c.args.at c.loop-i.i c.args.piece.now (omega arith) (omega arith) in
    let digit : IsDigit (get_or c.args.piece.now c.loop-i.i 0) = (grind (arith, nat_tests), grind (arith, nat_tests)) in
    record {
      digits = subst AreDigits (sym more) (digits_push (between c.args.at c.loop-i.i c.args.piece.now)
          (get_or c.args.piece.now c.loop-i.i 0) c.loop-i.invariant.digits digit);
      size = λ value is. ap (λ (n : ℕ). 10 * n + (get_or c.args.piece.now c.loop-i.i 0 - 48)) (c.loop-i.invariant.size value is)
          ∙ sym (ap (read_on value) more ∙ read_on-append value (between c.args.at c.loop-i.i c.args.piece.now) (get_or c.args.piece.now c.loop-i.i 0 ∷ []));
      low = omega (arith, digit.0, digit.1);
    }

pub returns-then-size-ge-SMALL-clause-digits : goal.returns-then-size-ge-SMALL-clause-digits
returns-then-size-ge-SMALL-clause-digits c =
    let wide = c.read_wide-then-size-ge-SMALL in
    subst AreDigits (between_join c.args.at c.loop-i.i c.read_wide-then-size-ge-SMALL.result.end c.args.piece.now
    (omega arith) c.read_wide-then-size-ge-SMALL.ensures.from)
    (digits_join (between c.args.at c.loop-i.i c.args.piece.now) (between c.loop-i.i c.read_wide-then-size-ge-SMALL.result.end c.args.piece.now)
    c.loop-i.invariant.digits c.read_wide-then-size-ge-SMALL.ensures.digits)

pub returns-then-size-ge-SMALL-clause-tally : goal.returns-then-size-ge-SMALL-clause-tally
returns-then-size-ge-SMALL-clause-tally c = λ value is.
    subst (IsTally c.read_wide-then-size-ge-SMALL.result.tally)
    (sym (read_on-append value (between c.args.at c.loop-i.i c.args.piece.now) (between c.loop-i.i c.read_wide-then-size-ge-SMALL.result.end c.args.piece.now))
    ∙ ap (read_on value) (between_join c.args.at c.loop-i.i c.read_wide-then-size-ge-SMALL.result.end c.args.piece.now
    (omega arith) c.read_wide-then-size-ge-SMALL.ensures.from))
    (c.read_wide-then-size-ge-SMALL.ensures.tally (read_on value (between c.args.at c.loop-i.i c.args.piece.now))
    (subst (IsTally c.small-then-size-ge-SMALL.result) (c.loop-i.invariant.size value is) c.small-then-size-ge-SMALL.ensures))
