use Rattle.std.proofs.Common.{◌+◌, ◌^◌, ◌≤◌, ℕ, ℤ, List, map, unsigned_abs, subst, sym, ◌∙◌, ap, to_z, arith, rules}
use Rattle.std.proofs.lemmas.Int.{ints, to_z-of_z}
use mir.Val.{SFits}
use mir.Syntax.{w128}
use Rattle.cert_grammar.specs.Certificate.{RowValue, is_member, row_of}
use Rattle.cert_text.specs.Parts.{row_value}
use Rattle.cert_check.specs.Multipliers.{multiplier_of}
use Rattle.cert_check.proofs.SumLaws.{holding-next, row-at, multiplier-size, counted-size, counted-same, next-fits, next-is, next-size}
use Rattle.cert_check.proofs.whole.columns.sum_of.Goals as goal

pub overflow_add-sum : goal.overflow_add-sum
overflow_add-sum c =
    let picked_fits : SFits w128 c.picked.result = search rules in
    let picked_is = to_z-of_z w128 c.picked.result picked_fits ∙ c.picked.ensures in
    let small = multiplier-size c.requires.range.0 c.args.rows.now c.loop-row.row-index c.row-item.result c.args.which c.requires.range.1 c.loop-row-test.true
    c.row-item.is in
    let own = subst (λ (z : ℤ). unsigned_abs z ≤ 2 ^ 120) (sym c.counted-sum.ensures)
    (counted-size c.is_among.result _ (2 ^ 120) (subst (λ (z : ℤ). unsigned_abs z ≤ 2 ^ 120) (sym picked_is) small)) in
    next-fits (to_z w128 c.loop-row.sum-bits) c.counted-sum.result c.loop-row.row-index (omega arith) own c.loop-row.invariant.size

pub loop-row-preserved : goal.loop-row-preserved
loop-row-preserved c =
    let rows = map row_value c.args.rows.now in
    let k = c.loop-row.row-index in
    let number = multiplier_of c.args.which in
    let picked_fits : SFits w128 c.picked.result = search rules in
    let picked_is = to_z-of_z w128 c.picked.result picked_fits ∙ c.picked.ensures in
    let small = multiplier-size c.requires.range.0 c.args.rows.now c.loop-row.row-index c.row-item.result c.args.which c.requires.range.1 c.loop-row-test.true
    c.row-item.is in
    let own = subst (λ (z : ℤ). unsigned_abs z ≤ 2 ^ 120) (sym c.counted-sum.ensures)
    (counted-size c.is_among.result _ (2 ^ 120) (subst (λ (z : ℤ). unsigned_abs z ≤ 2 ^ 120) (sym picked_is) small)) in
    let here = row-at c.args.rows.now k c.row-item.result c.loop-row-test.true c.row-item.is in
    let among = c.is_among.ensures ∙ ap (λ (l : List ℕ). is_member l c.args.j) c.items.ensures ∙ ap (λ (r : RowValue). is_member r.members c.args.j)
    (sym here) in
    let item = c.counted-sum.ensures ∙ counted-same c.is_among.result (is_member (row_of rows (k + 1)).members c.args.j) _
    (number (row_of rows (k + 1))) among (picked_is ∙ ap number (sym here)) in
    let sum = next-is (to_z w128 c.loop-row.sum-bits) c.counted-sum.result k (omega arith) own c.loop-row.invariant.size in
    let more = holding-next rows c.args.j number k in
    record {
      sum = sum ∙ (omega (arith, ints, c.loop-row.invariant.sum, item, more));
      size = next-size (to_z w128 c.loop-row.sum-bits) c.counted-sum.result k (omega arith) own c.loop-row.invariant.size;
    }
