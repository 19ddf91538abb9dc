use Rattle.std.proofs.Common.{arith, refl}
use Rattle.std.proofs.lemmas.Int.{ints}
use Rattle.auction_tests.proofs.OneOfTwo.{stays, yields, sum-stays, sum-yields}
use Rattle.auction_tests.proofs.coalitions.OneOfTwoChooser.best_lowered.Goals as goal

pub returns-then-surplus-den-clause-choice : goal.returns-then-surplus-den-clause-choice
returns-then-surplus-den-clause-choice c =
    let loser = c.requires.losers 2 (omega arith) (omega arith) refl in
    let small = c.if-surplus-den.true in
    let range = c.requires.range in
    rw c.in_ok-choice.ensures (stays c.args.den c.args.surplus.now c.requires.den_positive loser (omega (arith, ints, small, range)))

pub returns-then-surplus-den-clause-sum : goal.returns-then-surplus-den-clause-sum
returns-then-surplus-den-clause-sum c =
    let loser = c.requires.losers 2 (omega arith) (omega arith) refl in
    let sum = sum-stays c.args.den c.args.surplus.now c.requires.den_positive loser in
    let range = c.requires.range in
    rw c.in_ok-choice.ensures (omega (arith, ints, sum, range))

pub returns-clause-choice : goal.returns-clause-choice
returns-clause-choice c =
    let loser = c.requires.losers 2 (omega arith) (omega arith) refl in
    let great = c.if-surplus-den.false in
    let range = c.requires.range in
    rw c.in_ok-choice-2.ensures (yields c.args.den c.args.surplus.now c.requires.den_positive loser (omega (arith, ints, great, range)))

pub returns-clause-sum : goal.returns-clause-sum
returns-clause-sum c =
    let loser = c.requires.losers 2 (omega arith) (omega arith) refl in
    let great = c.if-surplus-den.false in
    let range = c.requires.range in
    let sum = sum-yields c.args.den c.args.surplus.now c.requires.den_positive loser (omega (arith, ints, great, range)) in
    rw c.in_ok-choice-2.ensures (omega (arith, ints, sum, range))
