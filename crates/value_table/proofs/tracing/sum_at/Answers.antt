use Rattle.std.proofs.lemmas.Grind.{common_steps}
use Rattle.std.proofs.Common.{◌≡◌, ◌∙◌, ◌≤◌, ◌^◌, ℤ, ap, arith, rules, get_or, map, pos, ◌+ℤ◌, unsigned_abs}
use Rattle.std.proofs.lemmas.Int.{to_z-of_z, fits_signed_from_abs}
use Rattle.auction_model.specs.Package.{less}
use Rattle.auction_model.specs.Place.{left_at, place_of}
use Rattle.value_table.specs.Counted.{counted_bids, counted}
use Rattle.value_table.proofs.Sizes.{line-small}
use mir.Val.{SFits}
use mir.Syntax.{w128}
use Rattle.value_table.proofs.tracing.sum_at.Goals as goal

pub overflow_add-result : goal.overflow_add-result
overflow_add-result g c =
    let b = c.number_at.result in
    let small : unsigned_abs b ≤ 2 ^ 120 = rw c.number_at.ensures (line-small c.args.lowered.now c.args.j
    (map g.C.Cell.number c.args.below.now) c.requires.below c.in-Some.rest) in
    let below_fits : SFits w128 b = fits_signed_from_abs w128 b (omega (arith, small)) in
    let worth_fits : SFits w128 c.worth.result = search rules in
    rw (to_z-of_z w128 b below_fits, to_z-of_z w128 c.worth.result worth_fits) (search rules)

pub returns-in-Some-clause-sum : goal.returns-in-Some-clause-sum
returns-in-Some-clause-sum g c =
    let l = c.args.lowered.now in
    let supply = l.book.now.supply in
    let line = map g.C.Cell.number c.args.below.now in
    let b = c.number_at.result in
    let small : unsigned_abs b ≤ 2 ^ 120 = rw c.number_at.ensures (line-small l c.args.j line c.requires.below c.in-Some.rest) in
    let below_fits : SFits w128 b = fits_signed_from_abs w128 b (omega (arith, small)) in
    let worth_fits : SFits w128 c.worth.result = search rules in
    let sum_fits : SFits w128 (c.worth.result +ℤ b) = search rules in
    let rest : c.in-Some.rest ≡ place_of supply (less (left_at supply c.args.place) ((counted_bids l).lots c.args.j c.args.i)) =
    simp (c.supply.ensures.supply, c.bid-bid.ensures.lots) at c.in-Some.ensures.left in
    rw (to_z-of_z w128 b below_fits, to_z-of_z w128 c.worth.result worth_fits, to_z-of_z w128 (c.worth.result +ℤ b) sum_fits)
    (ap (λ (z : ℤ). z +ℤ b) c.worth.ensures.worth ∙ ap (λ (z : ℤ). counted l c.args.j c.args.i +ℤ z) c.number_at.ensures
    ∙ ap (λ r. counted l c.args.j c.args.i +ℤ get_or line r (pos 0)) rest)

pub number_at-requires : goal.number_at-requires
number_at-requires g c = grind (arith, common_steps)
