use Rattle.std.proofs.Common.{◌≡◌, ◌∙◌, ◌^◌, ◌≤◌, ℤ, length, unsigned_abs, subst, sym, arith, rules}
use Rattle.std.proofs.lemmas.Int.{to_z-of_z}
use mir.Val.{SFits}
use mir.Syntax.{w128}
use Rattle.cert_grammar.specs.Certificate.{RowValue}
use Rattle.placement_check.proofs.RowLaws.{multipliers-size, sums-more, sums-none}
use Rattle.placement_check.proofs.sums.sums_over.Goals as goal

pub loop-row-init : goal.loop-row-init
loop-row-init c = record { firsts = sums-none (λ (r : RowValue). r.first) _; seconds = sums-none (λ (r : RowValue). r.second) _ }

pub add_row-requires-clause-sizes : goal.add_row-requires-clause-sizes
add_row-requires-clause-sizes c = λ k. omega (arith, c.loop-row.invariant.firsts.small k, c.loop-row-test.true, c.requires.count)

pub add_row-requires-in-loop-row-clause-sizes : goal.add_row-requires-in-loop-row-clause-sizes
add_row-requires-in-loop-row-clause-sizes c = λ k. omega (arith, c.loop-row.invariant.seconds.small k, c.loop-row-test.true, c.requires.count)

pub add_row-requires-clause-multiplier : goal.add_row-requires-clause-multiplier
add_row-requires-clause-multiplier c =
    let fits : SFits w128 c.row-item.result.first = search rules in
    let sizes = multipliers-size c.requires.range.0 c.args.rows.now c.loop-row.row-index c.row-item.result c.requires.range.1 c.loop-row-test.true
    c.row-item.is in
    subst (λ (z : ℤ). unsigned_abs z ≤ 2 ^ 120) (sym (to_z-of_z w128 c.row-item.result.first fits)) sizes.0

pub add_row-requires-in-loop-row-clause-multiplier : goal.add_row-requires-in-loop-row-clause-multiplier
add_row-requires-in-loop-row-clause-multiplier c =
    let fits : SFits w128 c.row-item.result.second = search rules in
    let sizes = multipliers-size c.requires.range.0 c.args.rows.now c.loop-row.row-index c.row-item.result c.requires.range.1 c.loop-row-test.true
    c.row-item.is in
    subst (λ (z : ℤ). unsigned_abs z ≤ 2 ^ 120) (sym (to_z-of_z w128 c.row-item.result.second fits)) sizes.1

pub loop-row-preserved : goal.loop-row-preserved
loop-row-preserved c =
    let rows = c.args.rows.now in
    let k = c.loop-row.row-index in
    let row = c.row-item.result in
    let sizes = multipliers-size c.requires.range.0 rows k row c.requires.range.1 c.loop-row-test.true c.row-item.is in
    let first_fits : SFits w128 row.first = search rules in
    let second_fits : SFits w128 row.second = search rules in
    let first = to_z-of_z w128 row.first first_fits in
    let second = to_z-of_z w128 row.second second_fits in
    let firsts_long : length c.loop-row.sums.firsts ≡ 6 = search rules in
    let seconds_long : length c.loop-row.sums.seconds ≡ 6 = search rules in
    record {
      firsts = sums-more (λ (r : RowValue). r.first) rows k row c.items-members.result.now c.loop-row.sums.firsts _ _ c.loop-row-test.true c.row-item.is
          c.items-members.ensures first
          (subst (λ (z : ℤ). unsigned_abs z ≤ 2 ^ 120) (sym first) sizes.0) (c.add_row.ensures.room ∙ firsts_long)
          (λ j some low. c.add_row.ensures.sums j some (omega (arith, low, firsts_long))) c.loop-row.invariant.firsts;
      seconds = sums-more (λ (r : RowValue). r.second) rows k row c.items-members.result.now c.loop-row.sums.seconds _ _ c.loop-row-test.true c.row-item.is
          c.items-members.ensures second
          (subst (λ (z : ℤ). unsigned_abs z ≤ 2 ^ 120) (sym second) sizes.1) (c.add_row-in-loop-row.ensures.room ∙ seconds_long)
          (λ j some low. c.add_row-in-loop-row.ensures.sums j some (omega (arith, low, seconds_long))) c.loop-row.invariant.seconds;
    }
