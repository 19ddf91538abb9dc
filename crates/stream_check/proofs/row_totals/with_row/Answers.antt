use Rattle.std.proofs.Common.{◌≡◌, ◌∙◌, ◌+◌, ℕ, length, set, ap, arith, rules}
use Rattle.std.specs.Prelude.{ℤ}
use Rattle.std.proofs.lemmas.Int.{to_z-of_z}
use mir.Val.{SFits, to_z, of_z}
use mir.Syntax.{w128}
use Rattle.stream_check.proofs.TotalsLaws.{first_sums-small, second_sums-small, inside, totals-more}
use Rattle.stream_check.proofs.row_totals.with_row.Goals as goal

pub put_at-requires : goal.put_at-requires
put_at-requires c =
    let long : length c.args.totals.firsts ≡ 10 = search rules in
    omega (arith, long, c.requires.some.3.count, c.requires.some.5, c.requires.some.6)

pub put_at-requires-2 : goal.put_at-requires-2
put_at-requires-2 c =
    let long : length c.args.totals.seconds ≡ 10 = search rules in
    omega (arith, long, c.requires.some.3.count, c.requires.some.5, c.requires.some.6)

pub add_row-requires-clause-sizes : goal.add_row-requires-clause-sizes
add_row-requires-clause-sizes c =
    let some = c.requires.some in
    let long : length c.args.totals.first_sums ≡ 16 = search rules in
    first_sums-small some.0 some.2 some.1 c.args.totals some.3 some.4 some.5 some.6 long

pub add_row-requires-2-clause-sizes : goal.add_row-requires-2-clause-sizes
add_row-requires-2-clause-sizes c =
    let some = c.requires.some in
    let long : length c.args.totals.second_sums ≡ 16 = search rules in
    second_sums-small some.0 some.2 some.1 c.args.totals some.3 some.4 some.5 some.6 long

pub returns : goal.returns
returns c = λ cert n are members_is first_is second_is.
    let first_fits : SFits w128 c.args.first = search rules in
    let second_fits : SFits w128 c.args.second = search rules in
    let long : length c.args.totals.firsts ≡ 10 = search rules in
    let long2 : length c.args.totals.seconds ≡ 10 = search rules in
    let four : length c.args.totals.first_sums ≡ 16 = search rules in
    let five : length c.args.totals.second_sums ≡ 16 = search rules in
    let some = c.requires.some in
    totals-more cert n c.args.totals _ c.args.members.now c.args.first c.args.second are members_is first_is second_is
    (inside n c.args.totals.count some.2 (length some.0.rows) (length c.args.totals.firsts) are.count c.requires.some.3.count c.requires.some.5
    c.requires.some.6 long)
    (inside n c.args.totals.count some.2 (length some.0.rows) (length c.args.totals.seconds) are.count c.requires.some.3.count c.requires.some.5
    c.requires.some.6 long2) (ap (λ (x : ℕ). x + 1) are.count)
    (c.put_at.ensures ∙ ap (λ (x : ℕ). set c.args.totals.firsts x (to_z w128 (of_z w128 c.args.first))) are.count
    ∙ ap (λ (z : ℤ). set c.args.totals.firsts n z) (to_z-of_z w128 c.args.first first_fits))
    (c.put_at-2.ensures ∙ ap (λ (x : ℕ). set c.args.totals.seconds x (to_z w128 (of_z w128 c.args.second))) are.count
    ∙ ap (λ (z : ℤ). set c.args.totals.seconds n z) (to_z-of_z w128 c.args.second second_fits))
    (λ j few most. rw (to_z-of_z w128 c.args.first first_fits) at (c.add_row.ensures.sums j few (omega (arith, most, four))))
    (λ j few most. rw (to_z-of_z w128 c.args.second second_fits) at (c.add_row-2.ensures.sums j few (omega (arith, most, five))))
