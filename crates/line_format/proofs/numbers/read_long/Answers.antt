use Rattle.std.proofs.Common.{◌≡◌, ◌≢◌, ℕ, ◌+◌, ◌-◌, ◌*◌, ◌≤◌, ◌<◌, length, get_or, take, drop, arith, subst, sym, ap, ◌∙◌}
use Rattle.std.proofs.lemmas.Bool.Decides.{nat_tests}
use Rattle.wide_num.proofs.Decimal.{IsDigit, read_on, digits_more, read_on_more}
use Rattle.line_format.specs.Fields.{FieldEnds, IsTally, HasNoLeadingZero}
use Rattle.line_format.proofs.Fronts.{no_number_at, no_leading_zero, field_made, ends_at, ends_last}
use Rattle.line_format.proofs.numbers.read_long.Goals as goal
use Rattle.line_format.proofs.numbers.read_long.Goals.{else-loop-c-test, then-loop-c-test+then-c-eq32}

pub returns-then-not-is_ascii_digit : goal.returns-then-not-is_ascii_digit
returns-then-not-is_ascii_digit c =
    let inside : c.loop-c.stop < length c.args.text.now = omega (arith, c.loop-c.invariant.here, c.loop-c-test.true) in
    let here : get_or c.args.text.now c.loop-c.stop 0 ≡ get_or c.args.text.now c.loop-c.c-index 0 = ap
    (λ (i : ℕ). get_or c.args.text.now i 0) c.loop-c.invariant.here in
    let space : get_or c.args.text.now c.loop-c.c-index 0 ≢ 32 = grind (arith, nat_tests) in
    let digit : IsDigit (get_or c.args.text.now c.loop-c.c-index 0) → ⊥ = λ d. grind (arith, nat_tests, d.0, d.1) in
    no_number_at c.args.text.now c.loop-c.stop c.loop-c.invariant.digits inside (λ e. space (sym here ∙ e)) (λ d. digit (subst IsDigit here d))

pub loop-c-preserved : goal.loop-c-preserved
loop-c-preserved c =
    let inside : c.loop-c.stop < length c.args.text.now = omega (arith, c.loop-c.invariant.here, c.loop-c-test.true) in
    let here : get_or c.args.text.now c.loop-c.stop 0 ≡ get_or c.args.text.now c.loop-c.c-index 0 = ap
    (λ (i : ℕ). get_or c.args.text.now i 0) c.loop-c.invariant.here in
    let digit : IsDigit (get_or c.args.text.now c.loop-c.c-index 0) = (grind (arith, nat_tests), grind (arith, nat_tests)) in
    let more = c.more-tally.ensures (read_on 0 (take c.loop-c.stop c.args.text.now)) c.loop-c.invariant.tally in
    record {
      here = omega (arith, c.loop-c.invariant.here);
      digits = digits_more c.args.text.now c.loop-c.stop inside c.loop-c.invariant.digits (subst IsDigit (sym here) digit);
      tally = subst (IsTally c.more-tally.result) (ap (λ (x : ℕ). 10 * read_on 0 (take c.loop-c.stop c.args.text.now) + (x - 48)) (sym here)
          ∙ sym (read_on_more c.args.text.now c.loop-c.stop inside)) more;
    }

pub returns-then-not-may_be_number : goal.returns-then-not-may_be_number
returns-then-not-may_be_number c = λ n rest ends e.
    let le : c.loop-c.stop ≤ length c.args.text.now = omega (arith, c.loop-c.invariant.here, c.loop-c.auto.c-index-end) in
    let stops : FieldEnds (drop c.loop-c.stop c.args.text.now) =
    elim c.loop-c-test.branch [
      | else-loop-c-test w ↦ ends_last c.args.text.now c.loop-c.stop (omega (arith, c.loop-c.invariant.here, w.loop-c-test.false))
      | then-loop-c-test+then-c-eq32 w ↦ ends_at c.args.text.now c.loop-c.stop (omega (arith, c.loop-c.invariant.here, w.loop-c-test.true))
          (ap (λ (i : ℕ). get_or c.args.text.now i 0) c.loop-c.invariant.here ∙ w.if-c-eq32.true)
    ] in
    let fine : HasNoLeadingZero c.args.text.now c.loop-c.stop = no_leading_zero c.args.text.now c.loop-c.stop c.loop-c.invariant.digits le stops n rest ends
    e in
    let yes = c.may_be_number.ensures.1 fine in
    cc (yes, c.if-not-may_be_number.true)

pub returns : goal.returns
returns c =
    let le : c.loop-c.stop ≤ length c.args.text.now = omega (arith, c.loop-c.invariant.here, c.loop-c.auto.c-index-end) in
    let stops : FieldEnds (drop c.loop-c.stop c.args.text.now) =
    elim c.loop-c-test.branch [
      | else-loop-c-test w ↦ ends_last c.args.text.now c.loop-c.stop (omega (arith, c.loop-c.invariant.here, w.loop-c-test.false))
      | then-loop-c-test+then-c-eq32 w ↦ ends_at c.args.text.now c.loop-c.stop (omega (arith, c.loop-c.invariant.here, w.loop-c-test.true))
          (ap (λ (i : ℕ). get_or c.args.text.now i 0) c.loop-c.invariant.here ∙ w.if-c-eq32.true)
    ] in
    let fine : HasNoLeadingZero c.args.text.now c.loop-c.stop = c.may_be_number.ensures.0 c.if-not-may_be_number.false in
    c.made.ensures c.args.text.now (read_on 0 (take c.loop-c.stop c.args.text.now)) c.loop-c.invariant.tally
    (field_made c.args.text.now c.loop-c.stop c.loop-c.invariant.digits le stops fine)
