use Rattle.std.proofs.Common.{arith, rules}
use Rattle.std.proofs.lemmas.Int.{ints}
use mir.Val.{SFits}
use mir.Syntax.{w128}
use Rattle.cert_check.proofs.HeadLaws.{claim-known}
use Rattle.cert_check.proofs.multipliers.vickrey.Goals as goal

pub won-won-requires-clause-known : goal.won-won-requires-clause-known
won-won-requires-clause-known c = claim-known c.args.claim.now

pub overflow_sub-result : goal.overflow_sub-result
overflow_sub-result c =
    let value_fits : SFits w128 c.args.claim.now.value = search rules in
    omega (arith, ints, c.requires.without.0, c.requires.without.1, value_fits)

pub overflow_add-result : goal.overflow_add-result
overflow_add-result c =
    let value_fits : SFits w128 c.args.claim.now.value = search rules in
    omega (arith, ints, c.requires.without.0, c.requires.without.1, value_fits, c.won-won.ensures.least, c.won-won.ensures.most)

pub returns-clause-price : goal.returns-clause-price
returns-clause-price c =
    let value_fits : SFits w128 c.args.claim.now.value = search rules in
    omega (arith, ints, c.requires.without.0, c.requires.without.1, value_fits, c.won-won.ensures.won, c.won-won.ensures.least, c.won-won.ensures.most)
