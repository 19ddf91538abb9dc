-- A winner of another weight was met, or none.
use Rattle.std.proofs.Common.{arith, subst}
use Rattle.core_laws.specs.Weights.{WeighAlike}
use Rattle.core_price.proofs.WeightLaws.{all-alike, not-alike}
use Rattle.core_price.proofs.weights.weigh_alike.Goals as goal

pub returns-then-weights-k-ne1-clause-apart : goal.returns-then-weights-k-ne1-clause-apart
returns-then-weights-k-ne1-clause-apart c = λ _.
    subst (λ z. WeighAlike z c.args.weights.now → ⊥) c.numbers-numbers.ensures
    (not-alike c.numbers-numbers.result.now c.args.weights.now c.loop-k.k c.loop-k-test.true c.if-numbers-k-ne0.true c.if-weights-k-ne1.true)

pub returns-clause-alike : goal.returns-clause-alike
returns-clause-alike c = λ _.
    subst (λ z. WeighAlike z c.args.weights.now) c.numbers-numbers.ensures
    (all-alike c.numbers-numbers.result.now c.args.weights.now c.loop-k.k (omega (arith, c.loop-k-test.false, c.loop-k.auto.k-end)) c.loop-k.invariant)
