-- The list loop by the laws of common divisors; numbers read from bits are themselves.
use Rattle.std.proofs.Common.{◌≡◌, rules, to_z, of_z}
use Rattle.std.proofs.lemmas.Int.{to_z-of_z}
use Rattle.std.specs.Int.{w128}
use Rattle.wide_num.specs.Sums.{nth}
use Rattle.core_price.proofs.Divisors.{common-none, common-more}
use Rattle.core_price.proofs.reduce.common_divisor.Goals as goal

pub loop-number-init : goal.loop-number-init
loop-number-init c = rw (to_z-of_z w128 c.args.start c.ranges.start) (common-none c.args.start c.args.numbers.now c.requires.start.0 c.requires.start.1)

pub loop-number-preserved : goal.loop-number-preserved
loop-number-preserved c =
    let k = c.loop-number.number-index in
    let x = nth c.args.numbers.now k in
    let d : to_z w128 (of_z w128 x) ≡ x = to_z-of_z w128 x (search rules) in
    let r : to_z w128 (of_z w128 c.gcd-divisor.result) ≡ c.gcd-divisor.result = to_z-of_z w128 c.gcd-divisor.result (search rules) in
    rw r (common-more (to_z w128 (of_z w128 c.args.start)) c.args.numbers.now k (to_z w128 c.loop-number.divisor-bits) c.gcd-divisor.result
    c.loop-number.invariant c.loop-number-test.true c.gcd-divisor.ensures.sign (rw d at c.gcd-divisor.ensures.greatest) c.gcd-divisor.ensures.range)

pub returns-clause-positive : goal.returns-clause-positive
returns-clause-positive c = (c.loop-number.invariant.positive, c.loop-number.invariant.range)

pub returns-clause-start : goal.returns-clause-start
returns-clause-start c = rw (to_z-of_z w128 c.args.start c.ranges.start) at c.loop-number.invariant.start_is

pub returns-clause-greatest : goal.returns-clause-greatest
returns-clause-greatest c = rw (to_z-of_z w128 c.args.start c.ranges.start) at c.loop-number.invariant.greatest
