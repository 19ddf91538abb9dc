use Rattle.std.proofs.Common.{◌≡◌, pos, ◌≤ℤ◌, arith, rules, below_more, to_z, of_z, FitsSigned}
use Rattle.std.proofs.lemmas.Int.{ints, to_z-of_z}
use Rattle.std.specs.Int.{w128}
use Rattle.wide_num.specs.Sums.{nth}
use Rattle.nearest_point.proofs.Sizes.{total_more}
use Rattle.nearest_point.proofs.tests.are_targets.Goals as goal

pub loop-x-preserved : goal.loop-x-preserved
loop-x-preserved c =
    let j = c.loop-x.x-index in
    let x = nth c.args.target.now j in
    let f : FitsSigned w128 (nth c.args.target.now j) = search rules in
    let back : to_z w128 (of_z w128 x) ≡ x = simp to_z-of_z (omega (arith, ints)) in
    let a = c.if-x-lt0.false in
    let b = c.if-x-edge.false in
    let e0 = c.requires.0 in
    let e1 = c.requires.1 in
    let eb : to_z w128 (of_z w128 c.args.edge) ≡ c.args.edge = to_z-of_z w128 c.args.edge c.ranges.edge in
    let s = c.loop-x.invariant.sum in
    let low = c.loop-x.invariant.low in
    let small = c.loop-x.invariant.small in
    let t = total_more j (nth c.args.target.now) in
    record {
      not_negative = below_more (λ i. pos 0 ≤ℤ nth c.args.target.now i) j c.loop-x.invariant.not_negative (omega (arith, ints));
      sum = omega (arith, ints);
      low = omega (arith, ints);
      small = omega (arith, ints);
    }
