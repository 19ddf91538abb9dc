use Rattle.std.proofs.Common.{◌≡◌, ◌+◌, ◌≤◌, ◌+ℤ◌, ℕ, ℤ, pos, not, cond, ◌∙◌, ap, to_z, arith, rules}
use Rattle.std.proofs.lemmas.Int.{ints, to_z-of_z}
use mir.Val.{SFits}
use mir.Syntax.{w128}
use Rattle.slot_places.specs.Board.{market_of_slots}
use Rattle.auction_model.specs.Market.{worth_in}
use Rattle.cert_grammar.specs.Certificate.{is_member}
use Rattle.cert_check.proofs.SumLaws.{over-next, counted-same}
use Rattle.placement_check.proofs.SumSteps.{counted-least, counted-most}
use Rattle.placement_check.proofs.sums.won_beside.Goals as goal

pub loop-k-preserved : goal.loop-k-preserved
loop-k-preserved c =
    let k = c.loop-k.k in
    let won_fits : SFits w128 c.won.result = search rules in
    let won_is = to_z-of_z w128 c.won.result won_fits in
    let others = λ (j : ℕ). not (is_member c.args.members.now j) in
    let old = to_z w128 c.loop-k.sum-bits in
    let item = c.counted-sum.ensures ∙ counted-same (not c.is_among.result) (others (k + 1)) _
    (worth_in (market_of_slots c.args.slots.now) c.args.choice.now (k + 1)) (ap not c.is_among.ensures) (won_is ∙ c.won.ensures.won) in
    let least = counted-least (not c.is_among.result) c.won.result c.won.ensures.least in
    let most = counted-most (not c.is_among.result) c.won.result c.won.ensures.least c.won.ensures.most in
    let same : c.counted-sum.result ≡ cond (not c.is_among.result) c.won.result (pos 0) = c.counted-sum.ensures
    ∙ ap (λ (z : ℤ). cond (not c.is_among.result) z (pos 0)) won_is in
    let own_fits : SFits w128 c.counted-sum.result = search rules in
    let own_same = to_z-of_z w128 c.counted-sum.result own_fits in
    let few : c.loop-k.k ≤ 6 = omega (arith, c.bidders-k-end.ensures.most) in
    let sum_fits : SFits w128 (to_z w128 c.loop-k.sum-bits +ℤ c.counted-sum.result) =
    omega (arith, ints, few, same, least, most, c.loop-k.invariant.least, c.loop-k.invariant.size) in
    let sum_same = to_z-of_z w128 (to_z w128 c.loop-k.sum-bits +ℤ c.counted-sum.result) sum_fits in
    let more = over-next others (worth_in (market_of_slots c.args.slots.now) c.args.choice.now) k in
    record {
      sum = rw (own_same, sum_same) (omega (arith, ints, c.loop-k.invariant.sum, item, more));
      least = rw (own_same, sum_same) (omega (arith, ints, c.loop-k.invariant.least, same, least));
      size = rw (own_same, sum_same) (omega (arith, ints, c.loop-k.invariant.least, c.loop-k.invariant.size, same, least, most));
    }

pub returns-clause-most : goal.returns-clause-most
returns-clause-most c =
    let few : c.loop-k.k ≤ 6 = omega (arith, c.bidders-k-end.ensures.bidders, c.bidders-k-end.ensures.most) in
    omega (arith, ints, few, c.loop-k.invariant.least, c.loop-k.invariant.size)
