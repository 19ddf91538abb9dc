use Rattle.std.proofs.Common.{◌≡◌, arith, length, to_z, of_z}
use Rattle.std.specs.Prelude.{pos, ◌-ℤ◌}
use Rattle.std.specs.Int.{w128}
use Rattle.std.specs.Int.Bits.{bit_and}
use Rattle.std.proofs.lemmas.Int.{ints}
use Rattle.wide_num.specs.Sums.{nth}
use Rattle.nearest_point.proofs.Leaves.{common_is, sum_below}
use Rattle.nearest_point.proofs.system.common_weight.Goals as goal

pub returns-clause-value : goal.returns-clause-value
returns-clause-value c =
    let b = c.sum_over.ensures.small in
    let e : to_z w128 (of_z w128 (pos 0 -ℤ to_z w128 (of_z w128 c.sum_over.result))) ≡ pos 0 -ℤ c.sum_over.result = omega (arith, ints) in
    let v = c.sum_over.ensures.value in
    let k = common_is (length c.args.lowered.now) c.args.one.members c.args.other.members (nth c.args.lowered.now) in
    omega (arith, ints)

pub returns-clause-small : goal.returns-clause-small
returns-clause-small c = λ top h.
    let v = c.sum_over.ensures.value in
    let b = c.sum_over.ensures.small in
    let k = sum_below top (length c.args.lowered.now) (bit_and c.args.one.members c.args.other.members) (nth c.args.lowered.now) h in
    let low = k.0 in
    let high = k.1 in
    (omega (arith, ints), omega (arith, ints))
