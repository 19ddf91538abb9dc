use Rattle.std.proofs.Common.{rules, ◌≡◌, ◌∙◌, ap, subst, refl, ◌++◌, ◌∷◌, [], List, ℕ, ℤ, pos, get_or, FitsSigned, to_z, of_z}
use Rattle.std.specs.Int.{w128}
use Rattle.std.proofs.lemmas.Int.{to_z-of_z}
use Rattle.outcome.specs.Fractions.{IsFractionOf, fraction_text}
use Rattle.outcome.specs.Turns.{AreFractions, Grows}
use Rattle.outcome.proofs.TurnLaws.{next-payment, all-payments}
use Rattle.outcome.proofs.turns.add_payments.Goals as goal

pub loop-paid-preserved : goal.loop-paid-preserved
loop-paid-preserved c =
    let den = to_z w128 (of_z w128 c.args.den) in
    let paid = get_or c.args.at.now c.loop-paid.paid-index (pos 0) in
    let fits : FitsSigned w128 (get_or c.args.at.now c.loop-paid.paid-index (pos 0)) = search rules in
    let is : IsFractionOf paid den c.new.result = subst (λ (n : ℤ). IsFractionOf n den c.new.result)
    (to_z-of_z w128 (get_or c.args.at.now c.loop-paid.paid-index (pos 0)) fits) c.new.ensures.fraction in
    let made : c.add_fraction.new.text ≡ (c.loop-paid.text ++ 32 ∷ []) ++ fraction_text c.new.result =
    c.in_ok-add_fraction.ensures ∙ ap (λ (l : List ℕ). l ++ fraction_text c.new.result) c.in_ok-push.ensures in
    next-payment den c.args.at.now c.loop-paid.paid-index c.args.text.now c.loop-paid.text c.loop-paid.invariant c.add_fraction.new.text
    (fraction_text c.new.result) paid c.loop-paid-test.true refl made
    (c.new.result.whole, c.new.result.rest, c.new.result.parts, is, refl)

pub returns : goal.returns
returns c =
    subst (λ (d : ℤ). Grows c.args.text.now c.loop-paid.text (AreFractions d c.args.at.now)) (to_z-of_z w128 c.args.den c.ranges.den)
    (all-payments (to_z w128 (of_z w128 c.args.den)) c.args.at.now c.loop-paid.paid-index c.args.text.now c.loop-paid.text c.loop-paid.invariant
    c.loop-paid-test.false)
