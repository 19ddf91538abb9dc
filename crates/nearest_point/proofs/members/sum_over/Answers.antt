use Rattle.std.proofs.Common.{◌≡◌, ℤ, ◌*ℤ◌, ◌+ℤ◌, arith, sym, ap, ◌∙◌, to_z, of_z}
use Rattle.std.proofs.lemmas.Int.{ints}
use Rattle.std.specs.Int.{w128}
use Rattle.far_num.specs.Members.{holds}
use Rattle.wide_num.specs.Sums.{nth}
use Rattle.nearest_point.proofs.Sizes.{total_more}
use Rattle.nearest_point.proofs.members.sum_over.Goals as goal

added : (t x s r y : ℤ) → x ≡ s → r ≡ y → t ≡ x +ℤ r → t ≡ s +ℤ y
added t x s r y e f g = omega (arith, ints)

pub overflow_add-sum : goal.overflow_add-sum
overflow_add-sum c =
    let h = c.requires.small c.loop-j.j c.loop-j-test.true in
    let s = c.loop-j.invariant.small in
    omega (arith, ints)

pub loop-j-preserved : goal.loop-j-preserved
loop-j-preserved c =
    let h = c.requires.small c.loop-j.j c.loop-j-test.true in
    let s = c.loop-j.invariant.small in
    let back : to_z w128 (of_z w128 (nth c.args.list.now c.loop-j.j)) ≡ nth c.args.list.now c.loop-j.j = omega (arith, ints) in
    let part = c.member_part-sum.ensures.value ∙ ap (λ (z : ℤ). holds c.args.members c.loop-j.j *ℤ z) back in
    record {
      value = added _ (to_z w128 c.loop-j.sum-bits) _ c.member_part-sum.result _ c.loop-j.invariant.value part (omega (arith, ints))
          ∙ sym (total_more c.loop-j.j (λ j. holds c.args.members j *ℤ nth c.args.list.now j));
      small = omega (arith, ints);
    }
