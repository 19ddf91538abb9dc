use Rattle.std.proofs.Common.{arith, length}
use Rattle.std.proofs.lemmas.Int.{ints}
use Rattle.wide_num.specs.Sums.{nth}
use Rattle.nearest_point.proofs.Leaves.{sum_below, some_of, target_small}
use Rattle.nearest_point.proofs.system.right_side.Goals as goal

pub sum_over-requires-clause-small : goal.sum_over-requires-clause-small
sum_over-requires-clause-small c = λ i lt. let s = target_small c.args.target.now c.requires.target i lt in omega (arith, s)

pub returns-clause-small_far : goal.returns-clause-small_far
returns-clause-small_far c =
    let six = c.requires.few.0 in
    let same = c.requires.few.1 in
    let v = c.sum_over-far.ensures.value in
    let k = sum_below 20 (length c.args.lowered.now) c.args.row.members (nth c.args.lowered.now) c.requires.lowered in
    let low = k.0 in
    let high = k.1 in
    omega (arith, ints)

pub returns-clause-small_near : goal.returns-clause-small_near
returns-clause-small_near c = λ edge te be.
    let w = c.sum_over.ensures.value in
    let s = some_of (length c.args.target.now) c.args.row.members (nth c.args.target.now) c.requires.target.not_negative in
    let s0 = s.0 in
    let s1 = s.1 in
    let b = c.sum_over.ensures.small in
    let t = c.requires.target.sum in
    let b0 = c.requires.bound.0 in
    let b1 = c.requires.bound.1 in
    omega (arith, ints)
