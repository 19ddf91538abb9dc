use Rattle.std.proofs.Common.{ℕ, suc, pos, unsigned_abs, slice_index_or, FitsSigned, to_z, arith, rules, subst, sym, add-one}
use Rattle.std.specs.Int.{w128, IsGcd}
use Rattle.std.proofs.lemmas.Int.{to_z-of_z, ints}
use Rattle.lin_solve.specs.Elimination.{ContentOf}
use Rattle.wide_num.specs.Sums.{nth}
use Rattle.lin_solve.proofs.Gcds.{gcd_parts, content_none, content_more}
use Rattle.lin_solve.proofs.rows.content.Goals as goal

pub loop-x-init : goal.loop-x-init
loop-x-init c = record { is = content_none (nth c.args.xs.now); sign = omega (arith, ints); small = omega arith }

pub loop-x-preserved : goal.loop-x-preserved
loop-x-preserved c =
    let item : FitsSigned w128 (slice_index_or c.args.xs.now c.loop-x.x-index (pos 0)) = search rules in
    let shared : FitsSigned w128 c.gcd-shared.result = search rules in
    let g : IsGcd (unsigned_abs (to_z w128 c.loop-x.shared-bits)) (unsigned_abs (nth c.args.xs.now c.loop-x.x-index)) (unsigned_abs c.gcd-shared.result) =
    simp to_z-of_z at c.gcd-shared.ensures.greatest in
    let more : ContentOf (suc c.loop-x.x-index) (nth c.args.xs.now) c.gcd-shared.result =
    content_more c.loop-x.x-index (nth c.args.xs.now) (to_z w128 c.loop-x.shared-bits) c.gcd-shared.result c.loop-x.invariant.is
    (gcd_parts (to_z w128 c.loop-x.shared-bits) (nth c.args.xs.now c.loop-x.x-index) c.gcd-shared.result c.gcd-shared.ensures.sign g) in
    simp to_z-of_z (record {
      is = subst (λ (k : ℕ). ContentOf k (nth c.args.xs.now) c.gcd-shared.result) (sym (add-one c.loop-x.x-index)) more;
      sign = c.gcd-shared.ensures.sign;
      small = c.gcd-shared.ensures.range;
    })
