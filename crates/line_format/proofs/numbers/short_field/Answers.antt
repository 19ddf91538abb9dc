use Rattle.std.proofs.Common.{◌∙◌, ℕ, ◌+◌, ◌-◌, ◌*◌, ◌<◌, ◌^◌, ap, sym, arith, get_or, length, take, drop, subst, refl}
use Rattle.std.proofs.lemmas.Bool.Decides.{nat_tests}
use Rattle.wide_num.proofs.Decimal.{IsDigit, read_on, digits_more, read_on_more}
use Rattle.line_format.specs.Fields.{FieldEnds, IsField, HasNoLeadingZero}
use Rattle.line_format.proofs.Fronts.{field_made, no_field_below}
use Rattle.line_format.proofs.numbers.short_field.Goals as goal
use Rattle.line_format.proofs.numbers.short_field.Goals.{else-loop-stop-test, then-loop-stop-test+else-number-lt-SHORT}
use Rattle.line_format.proofs.numbers.short_field.Goals.{then-loop-stop-test+then-number-lt-SHORT+else-is_ascii_digit}
use Rattle.line_format.proofs.numbers.short_field.Goals.{then-not-ends_at-via-else-not-ends_at+then-not-may_be_number}
use Rattle.line_format.proofs.numbers.short_field.Goals.{then-not-ends_at-via-then-not-ends_at}

pub loop-stop-preserved : goal.loop-stop-preserved
loop-stop-preserved c =
    let text = c.args.text.now in
    let stop = c.loop-stop.stop in
    let inside : stop < length text = c.loop-stop-test.true in
    let digit : IsDigit (get_or text stop 0) = (grind (arith, nat_tests), grind (arith, nat_tests)) in
    record {
      within = omega (arith, inside);
      digits = digits_more text stop inside c.loop-stop.invariant.digits digit;
      value = ap (λ (x : ℕ). 10 * x + (get_or text stop 0 - 48)) c.loop-stop.invariant.value ∙ sym (read_on_more text stop inside);
    }

pub returns-clause-found : goal.returns-clause-found
returns-clause-found c =
    let text = c.args.text.now in
    let stop = c.loop-stop.stop in
    let fine : HasNoLeadingZero text stop = c.may_be_number.ensures.0 c.if-not-may_be_number.false in
    let field = field_made text stop c.loop-stop.invariant.digits c.loop-stop.invariant.within (c.if-not-ends_at.ensures.0 refl) fine in
    subst (λ (n : ℕ). IsField text n stop) (sym c.loop-stop.invariant.value) field

pub returns-then-not-ends_at-clause-none : goal.returns-then-not-ends_at-clause-none
returns-then-not-ends_at-clause-none c =
    let text = c.args.text.now in
    let stop = c.loop-stop.stop in
    let stops : read_on 0 (take stop text) < 2 ^ 60 → stop < length text → IsDigit (get_or text stop 0) → ⊥ = λ low inside digit.
    elim c.loop-stop-test.branch [
      | then-loop-stop-test+then-number-lt-SHORT+else-is_ascii_digit w ↦ grind (arith, nat_tests, digit.0, digit.1, w.if-is_ascii_digit.false)
      | then-loop-stop-test+else-number-lt-SHORT w ↦ omega (arith, low, c.loop-stop.invariant.value, w.if-number-lt-SHORT.false)
      | else-loop-stop-test w ↦ omega (arith, inside, w.loop-stop-test.false)
    ] in
    let fails : FieldEnds (drop stop text) → HasNoLeadingZero text stop → ⊥ = λ ends fine.
    elim c.then-not-ends_at.branch [
      | then-not-ends_at-via-then-not-ends_at w ↦ (let yes = c.ends_at.ensures.1 ends in cc (yes, w.if-not-ends_at.true))
      | then-not-ends_at-via-else-not-ends_at+then-not-may_be_number w ↦ (let yes = w.may_be_number.ensures.1 fine in cc (yes, w.if-not-may_be_number.true))
    ] in
    no_field_below (2 ^ 60) text stop c.loop-stop.invariant.digits c.loop-stop.invariant.within stops fails
