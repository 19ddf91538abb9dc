use Rattle.std.proofs.Common.{ℕ, ℤ, pos, ◌+ℤ◌, ◌*ℤ◌, length, unsigned_abs, slice_index_or, FitsSigned, arith, rules, ap, sym, ◌∙◌, add-one}
use Rattle.std.specs.Int.{w128}
use Rattle.std.proofs.lemmas.Int.{to_z-of_z}
use Rattle.wide_num.specs.Sums.{dot, nth}
use Rattle.lin_solve.proofs.Siegel.{dot_room}
use Rattle.lin_solve.proofs.rows.dot.Goals as goal

pub add_product-sum-requires : goal.add_product-sum-requires
add_product-sum-requires c =
    let left : FitsSigned w128 (slice_index_or c.args.line.now c.loop-i.i (pos 0)) = search rules in
    let right : FitsSigned w128 (slice_index_or c.args.vector.now c.loop-i.i (pos 0)) = search rules in
    let e = ap unsigned_abs c.loop-i.invariant in
    let m = dot_room c.loop-i.i (length c.args.line.now) (nth c.args.line.now) (nth c.args.vector.now) c.loop-i-test.true in
    simp to_z-of_z (omega (arith, e, m, c.requires.room))

pub loop-i-preserved : goal.loop-i-preserved
loop-i-preserved c =
    let left : FitsSigned w128 (slice_index_or c.args.line.now c.loop-i.i (pos 0)) = search rules in
    let right : FitsSigned w128 (slice_index_or c.args.vector.now c.loop-i.i (pos 0)) = search rules in
    let sum : FitsSigned w128 c.add_product-sum.result = search rules in
    let step = simp to_z-of_z at c.add_product-sum.ensures in
    to_z-of_z w128 c.add_product-sum.result sum
    ∙ step
    ∙ ap (λ (x : ℤ). x +ℤ nth c.args.line.now c.loop-i.i *ℤ nth c.args.vector.now c.loop-i.i) c.loop-i.invariant
    ∙ ap (λ (k : ℕ). dot k (nth c.args.line.now) (nth c.args.vector.now)) (sym (add-one c.loop-i.i))
