use Rattle.std.proofs.Common.{◌≡◌, pos, ◌+ℤ◌, arith, refl, ◌∙◌, to_z, of_z, slice_index_or}
use Rattle.std.proofs.lemmas.Int.{ints}
use Rattle.std.specs.Int.{w128}
use Rattle.wide_num.specs.Sums.{nth}
use Rattle.nearest_point.specs.Numbers.{place}
use Rattle.nearest_point.proofs.SetStep.{numbers_step, small_step, length_step, any_default}
use Rattle.nearest_point.proofs.spread.spread_out.Goals as goal

pub loop-i-preserved : goal.loop-i-preserved
loop-i-preserved c =
    let n = c.loop-i.i in
    let r = slice_index_or c.args.rows.now n 0 in
    let list = c.loop-i.list.items in
    let within = c.requires.within n c.loop-i-test.true in
    let x = nth c.args.multipliers.now n in
    let v = to_z w128 (of_z w128 (to_z w128 (of_z w128 c.index_mut.result.now) +ℤ to_z w128 (of_z w128 x))) in
    let h = c.loop-i.invariant.small r in
    let w = c.requires.small n (omega arith) in
    let now : c.index_mut.result.now ≡ nth list r = c.index_mut.ensures.value ∙ any_default list r c.index_mut.result.now (pos 0) (omega arith) in
    let e : v ≡ nth list r +ℤ x = omega (arith, ints) in
    record {
      lengths = length_step list r v ∙ c.loop-i.invariant.lengths;
      numbers = numbers_step list c.args.count n r (place c.args.rows.now) (nth c.args.multipliers.now) v c.loop-i.invariant.lengths refl within e
          c.loop-i.invariant.numbers;
      small = small_step list n r v x (omega arith) e w c.loop-i.invariant.small;
    }
