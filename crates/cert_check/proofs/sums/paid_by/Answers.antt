use Rattle.std.proofs.Common.{◌≡◌, ◌+◌, ◌-◌, ◌^◌, ◌≤◌, ℕ, ℤ, pos, unsigned_abs, get_or, subst, sym, ◌∙◌, ap, to_z, arith, rules}
use Rattle.std.proofs.lemmas.Int.{ints, to_z-of_z}
use mir.Val.{SFits}
use mir.Syntax.{w128}
use Rattle.auction_model.specs.Lowered.{of_bidder}
use Rattle.cert_grammar.specs.Certificate.{is_member}
use Rattle.cert_check.proofs.SumLaws.{over-next, in-range, counted-size, counted-same, next-fits, next-is, next-size}
use Rattle.cert_check.proofs.sums.paid_by.Goals as goal

pub overflow_add-sum : goal.overflow_add-sum
overflow_add-sum c =
    let paid_fits : SFits w128 (get_or c.args.payments.now c.loop-k.k (pos 0)) = search rules in
    let paid = to_z-of_z w128 (get_or c.args.payments.now c.loop-k.k (pos 0)) paid_fits in
    let small = in-range c.args.payments.now c.loop-k.k c.requires.range in
    let own = subst (λ (z : ℤ). unsigned_abs z ≤ 2 ^ 120) (sym c.counted-sum.ensures)
    (counted-size c.is_among.result _ (2 ^ 120) (rw paid (omega (arith, small)))) in
    next-fits (to_z w128 c.loop-k.sum-bits) c.counted-sum.result c.loop-k.k (omega arith) own c.loop-k.invariant.size

pub loop-k-preserved : goal.loop-k-preserved
loop-k-preserved c =
    let payments = c.args.payments.now in
    let k = c.loop-k.k in
    let paid_fits : SFits w128 (get_or c.args.payments.now c.loop-k.k (pos 0)) = search rules in
    let paid = to_z-of_z w128 (get_or c.args.payments.now c.loop-k.k (pos 0)) paid_fits in
    let small = in-range c.args.payments.now c.loop-k.k c.requires.range in
    let own = subst (λ (z : ℤ). unsigned_abs z ≤ 2 ^ 120) (sym c.counted-sum.ensures)
    (counted-size c.is_among.result _ (2 ^ 120) (rw paid (omega (arith, small)))) in
    let back : c.loop-k.k ≡ c.loop-k.k + 1 - 1 = omega arith in
    let item = c.counted-sum.ensures ∙ counted-same c.is_among.result (is_member c.args.members.now (k + 1)) _ (of_bidder payments (k + 1)) c.is_among.ensures
    (paid ∙ ap (λ (n : ℕ). get_or payments n (pos 0)) back) in
    let sum = next-is (to_z w128 c.loop-k.sum-bits) c.counted-sum.result k (omega arith) own c.loop-k.invariant.size in
    let more = over-next (is_member c.args.members.now) (of_bidder payments) k in
    record {
      sum = sum ∙ (omega (arith, ints, c.loop-k.invariant.sum, item, more));
      size = next-size (to_z w128 c.loop-k.sum-bits) c.counted-sum.result k (omega arith) own c.loop-k.invariant.size;
    }
