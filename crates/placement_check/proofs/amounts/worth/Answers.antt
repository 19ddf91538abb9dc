use Rattle.std.proofs.Common.{◌≡◌, ◌≤◌, ◌<◌, length, drop, [], ◌+ℤ◌, ap, arith, rules}
use Rattle.std.proofs.lemmas.Int.{ints, to_z-of_z}
use Rattle.std.proofs.lemmas.List.{drop_all}
use Rattle.auction_model.specs.Market.{sum_after}
use Rattle.auction_model.proofs.ChoiceLaws.{sum-step}
use Rattle.slot_places.specs.Slots.{amount_of}
use mir.Val.{SFits, to_z}
use mir.Syntax.{w128}
use Rattle.placement_check.proofs.amounts.worth.Goals as goal

pub loop-k-preserved : goal.loop-k-preserved
loop-k-preserved c =
    let numbers = c.args.numbers.now in
    let k = c.loop-k.k in
    let worths = amount_of c.args.slots.now in
    let old = to_z w128 c.loop-k.sum-bits in
    let own = c.amount-sum.result in
    let inside : k < length numbers = omega (arith, c.requires, c.bidders-k-end.ensures.bidders) in
    let own_fits : SFits w128 own = search rules in
    let sum_fits : SFits w128 (old +ℤ own) = search rules in
    let own_same = to_z-of_z w128 own own_fits in
    let sum_same = to_z-of_z w128 (old +ℤ own) sum_fits in
    let step = sum-step worths numbers k inside in
    record {
      whole = rw (own_same, sum_same) (omega (arith, ints, step, c.loop-k.invariant.whole, c.amount-sum.ensures.amount));
      not_negative = rw (own_same, sum_same) (omega (arith, ints, c.loop-k.invariant.not_negative, c.amount-sum.ensures.least));
      size = rw (own_same, sum_same) (omega (
        arith,
        ints,
        c.loop-k.invariant.size,
        c.loop-k.invariant.not_negative,
        c.amount-sum.ensures.least,
        c.amount-sum.ensures.most,
      ));
    }

pub returns-clause-value : goal.returns-clause-value
returns-clause-value c =
    let numbers = c.args.numbers.now in
    let k = c.loop-k.k in
    let worths = amount_of c.args.slots.now in
    let all : length numbers ≤ k = omega (arith, c.requires, c.bidders-k-end.ensures.bidders) in
    let rest : sum_after worths k (drop k numbers) ≡ sum_after worths k [] = ap (sum_after worths k) (drop_all k numbers all) in
    omega (arith, ints, rest, c.loop-k.invariant.whole)

pub returns-clause-most : goal.returns-clause-most
returns-clause-most c =
    let most : c.loop-k.k ≤ 6 = omega (arith, c.bidders-k-end.ensures.bidders, c.bidders-k-end.ensures.most) in
    omega (arith, ints, most, c.loop-k.invariant.size, c.loop-k.invariant.not_negative)
