use Rattle.std.proofs.Common.{◌≡◌, ◌≤◌, ◌+◌, ◌-◌, ◌*◌, ◌^◌, ◌+ℤ◌, ℕ, ℤ, pos, unsigned_abs, get_or, refl, ◌∙◌, ap, sym, subst, to_z, of_z, arith, rules}
use Rattle.std.specs.Prelude.{if◌then◌else◌}
use Rattle.std.proofs.lemmas.Int.{ints, to_z-of_z}
use mir.Val.{SFits}
use mir.Syntax.{w128}
use Rattle.auction_model.specs.Lowered.{of_bidder}
use Rattle.cert_grammar.specs.Certificate.{is_member}
use Rattle.cert_check.proofs.SumLaws.{counted-size, counted-same}
use Rattle.cert_check.proofs.Written.{added-more}
use Rattle.cert_check.proofs.columns.add_row.Goals as goal

pub loop-k-preserved : goal.loop-k-preserved
loop-k-preserved c =
    let k = c.loop-k.k in
    let old = get_or c.loop-k.sums k (pos 0) in
    let own_fits : SFits w128 c.args.multiplier = search rules in
    let own = to_z-of_z w128 c.args.multiplier own_fits in
    let same = c.loop-k.invariant.rest k (omega arith) in
    let before = c.requires.sizes k in
    let added = c.counted.ensures ∙ counted-same c.is_among.result (is_member c.args.members.now (k + 1)) _
    (to_z w128 (of_z w128 c.args.multiplier)) c.is_among.ensures refl in
    let small = subst (λ (z : ℤ). unsigned_abs z ≤ 2 ^ 120) (sym c.counted.ensures)
    (counted-size c.is_among.result _ (2 ^ 120) (rw own c.requires.multiplier)) in
    let bound : unsigned_abs (get_or c.loop-k.sums c.loop-k.k (pos 0)) ≤ 15 * 2 ^ 120 = subst (λ (z : ℤ). unsigned_abs z ≤ 15 * 2 ^ 120) (sym same) before in
    let sum : to_z w128 (of_z w128 (to_z w128 (of_z w128 (get_or c.loop-k.sums c.loop-k.k (pos 0))) +ℤ to_z w128 (of_z w128 c.counted.result))) ≡ get_or
    c.loop-k.sums c.loop-k.k (pos 0) +ℤ c.counted.result = omega (arith, ints, bound, small) in
    added-more (λ (j : ℕ). if is_member c.args.members.now j then to_z w128 (of_z w128 c.args.multiplier) else pos 0) c.args.sums.now c.loop-k.sums k _
    (omega arith) c.loop-k.invariant
    (sum ∙ ap (λ (z : ℤ). old +ℤ z) added)

pub returns-clause-sums : goal.returns-clause-sums
returns-clause-sums c = λ j some inside.
    let own_fits : SFits w128 c.args.multiplier = search rules in
    let back : j - 1 + 1 ≡ j = omega (arith, some) in
    rw (to_z-of_z w128 c.args.multiplier own_fits) at (subst (λ (x : ℕ). of_bidder c.loop-k.sums j ≡ of_bidder c.args.sums.now j +ℤ
    (if is_member c.args.members.now x then to_z w128 (of_z w128 c.args.multiplier) else pos 0)) back
    (c.loop-k.invariant.done (j - 1) (omega (arith, some, inside))))
