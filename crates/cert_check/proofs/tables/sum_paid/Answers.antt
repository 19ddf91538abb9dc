use Rattle.std.proofs.Common.{◌<◌, rules, arith, get_or, pos, ◌+ℤ◌}
use Rattle.std.proofs.lemmas.Int.{to_z-of_z, fits_signed_from_abs}
use Rattle.cert_check.proofs.LoweredLaws.{paid-next, paid-small}
use mir.Val.{SFits, to_z}
use mir.Syntax.{w128}
use Rattle.cert_check.proofs.tables.sum_paid.Goals as goal

pub overflow_add-sum : goal.overflow_add-sum
overflow_add-sum c =
    let own_fits : SFits w128 (get_or c.args.payments.now c.loop-k.k (pos 0)) = search rules in
    let few : c.loop-k.k < 16 = omega (arith, c.loop-k-test.true, c.requires.few) in
    rw (to_z-of_z w128 (get_or c.args.payments.now c.loop-k.k (pos 0)) own_fits)
    (fits_signed_from_abs w128 (to_z w128 c.loop-k.sum-bits +ℤ get_or c.args.payments.now c.loop-k.k (pos 0))
    (paid-small c.args.payments.now c.loop-k.k (to_z w128 c.loop-k.sum-bits) c.requires.sizes c.loop-k.invariant few))

pub loop-k-preserved : goal.loop-k-preserved
loop-k-preserved c =
    let own_fits : SFits w128 (get_or c.args.payments.now c.loop-k.k (pos 0)) = search rules in
    let few : c.loop-k.k < 16 = omega (arith, c.loop-k-test.true, c.requires.few) in
    let sum_fits : SFits w128 (to_z w128 c.loop-k.sum-bits +ℤ get_or c.args.payments.now c.loop-k.k (pos 0)) =
    fits_signed_from_abs w128 (to_z w128 c.loop-k.sum-bits +ℤ get_or c.args.payments.now c.loop-k.k (pos 0))
    (paid-small c.args.payments.now c.loop-k.k (to_z w128 c.loop-k.sum-bits) c.requires.sizes c.loop-k.invariant few) in
    simp to_z-of_z (paid-next c.args.payments.now c.loop-k.k (to_z w128 c.loop-k.sum-bits) c.requires.sizes c.loop-k.invariant)
