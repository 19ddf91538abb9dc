use Rattle.std.proofs.Common.{◌≡◌, ℤ, ◌*ℤ◌, ◌+ℤ◌, arith, sym, ap, ◌∙◌, to_z, of_z}
use Rattle.std.proofs.lemmas.Int.{ints}
use Rattle.std.proofs.Math.IntN.{*ℤ_comm}
use Rattle.std.specs.Int.{w128}
use Rattle.wide_num.specs.Sums.{nth}
use Rattle.nearest_point.specs.Found.{row_of}
use Rattle.nearest_point.proofs.Sizes.{total_more}
use Rattle.nearest_point.proofs.settle.column.Goals as goal

added : (t x s r y : ℤ) → x ≡ s → r ≡ y → t ≡ x +ℤ r → t ≡ s +ℤ y
added t x s r y e f g = omega (arith, ints)

pub loop-i-preserved : goal.loop-i-preserved
loop-i-preserved c =
    let six = c.requires.few in
    let h = c.requires.multipliers c.loop-i.i (omega arith) in
    let s = c.loop-i.invariant.small in
    let x = nth c.args.multipliers.now c.loop-i.i in
    let a = row_of c.args.rows.now c.args.forced.now c.loop-i.i c.args.j in
    let back : to_z w128 (of_z w128 x) ≡ x = omega (arith, ints) in
    let part : c.member_part-sum.result ≡ x *ℤ a = c.member_part-sum.ensures.value ∙ ap (λ (z : ℤ). a *ℤ z) back ∙ *ℤ_comm a x in
    let either = c.member_part-sum.ensures.either in
    record {
      value = added _ (to_z w128 c.loop-i.sum-bits) _ c.member_part-sum.result _ c.loop-i.invariant.value part (omega (arith, ints))
          ∙ sym (total_more c.loop-i.i (λ i. nth c.args.multipliers.now i *ℤ row_of c.args.rows.now c.args.forced.now i c.args.j));
      small = omega (arith, ints);
    }
