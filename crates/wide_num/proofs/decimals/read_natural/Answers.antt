use Rattle.std.proofs.Common.{ℕ, ◌+◌, ◌-◌, ◌*◌, ◌<◌, length, get_or, arith, subst, sym, ap, ◌∙◌}
use Rattle.std.proofs.lemmas.Bool.Decides.{nat_tests}
use Rattle.std.proofs.lemmas.List.{take_all}
use Rattle.wide_num.proofs.Decimal.{as_numeral, digit_at, read_on, read_on-take_le, read_on_more, digits_more, decimal_numeral, IsDigit, AreDigits, IsNumeral}
use Rattle.wide_num.proofs.decimals.read_natural.Goals as goal

pub returns-in-empty-clause-none : goal.returns-in-empty-clause-none
returns-in-empty-clause-none c = λ n small is. absurd (omega (arith, (as_numeral c.args.text.now n small is).some, c.in-empty.len_below))

pub returns-in-48-clause-none : goal.returns-in-48-clause-none
returns-in-48-clause-none c = λ n small is. let leading = (as_numeral c.args.text.now n small is).leading in absurd (omega (arith, leading (omega arith)))

pub returns-then-not-is_ascii_digit-clause-none : goal.returns-then-not-is_ascii_digit-clause-none
returns-then-not-is_ascii_digit-clause-none c = λ n small is.
    let digit = digit_at c.args.text.now c.loop-byte.byte-index (as_numeral c.args.text.now n small is).digits (omega arith) in
    absurd (grind (arith, digit.0, digit.1))

pub returns-then-n-ge-EDGE-clause-none : goal.returns-then-n-ge-EDGE-clause-none
returns-then-n-ge-EDGE-clause-none c = λ n small is.
    let value = (as_numeral c.args.text.now n small is).value in
    let more = read_on_more c.args.text.now c.loop-byte.byte-index (omega arith) in
    let le = read_on-take_le 0 (c.loop-byte.byte-index + 1) c.args.text.now in
    absurd (omega (arith, value, more, le))

pub loop-byte-preserved : goal.loop-byte-preserved
loop-byte-preserved c =
    let lt : c.loop-byte.byte-index < length c.args.text.now = omega arith in
    let digit : IsDigit (get_or c.args.text.now c.loop-byte.byte-index 0) = (grind (arith, nat_tests), grind (arith, nat_tests)) in
    record {
      some = omega arith;
      leading = c.loop-byte.invariant.leading;
      value = ap (λ (k : ℕ). 10 * k + (get_or c.args.text.now c.loop-byte.byte-index 0 - 48)) c.loop-byte.invariant.value
          ∙ sym (read_on_more c.args.text.now c.loop-byte.byte-index lt);
      small = omega arith;
      digits = digits_more c.args.text.now c.loop-byte.byte-index lt c.loop-byte.invariant.digits digit;
    }

pub returns-clause-found : goal.returns-clause-found
returns-clause-found c =
    let whole = take_all c.loop-byte.byte-index c.args.text.now (omega arith) in
    let all = subst AreDigits whole c.loop-byte.invariant.digits in
    let numeral : IsNumeral c.args.text.now c.loop-byte.n = record {
      digits = all;
      some = c.loop-byte.invariant.some;
      leading = λ long. let first = digit_at c.args.text.now 0 all c.loop-byte.invariant.some in let other = c.loop-byte.invariant.leading long in omega arith;
      value = ap (read_on 0) (sym whole) ∙ sym c.loop-byte.invariant.value;
    } in (c.loop-byte.invariant.small, decimal_numeral c.args.text.now c.loop-byte.n numeral (omega (arith, c.loop-byte.invariant.small)))
