use Rattle.std.proofs.Common.{◌+◌, ◌^◌, ◌≤◌, ◌<◌, ℕ, ℤ, not, unsigned_abs, subst, sym, ◌∙◌, ap, to_z, arith, rules}
use Rattle.std.proofs.lemmas.Int.{ints, to_z-of_z}
use mir.Val.{SFits}
use mir.Syntax.{w128}
use Rattle.auction_model.specs.Book.{market_of}
use Rattle.auction_model.specs.Market.{worth_in}
use Rattle.cert_grammar.specs.Certificate.{is_member}
use Rattle.cert_check.proofs.SumLaws.{over-next, counted-size, counted-same, next-is, next-size}
use Rattle.cert_check.proofs.sums.won_beside.Goals as goal

pub loop-k-preserved : goal.loop-k-preserved
loop-k-preserved c =
    let k = c.loop-k.k in
    let won_fits : SFits w128 c.won.result = search rules in
    let won_is = to_z-of_z w128 c.won.result won_fits in
    let own = subst (λ (z : ℤ). unsigned_abs z ≤ 2 ^ 120) (sym c.counted-sum.ensures)
    (counted-size (not c.is_among.result) _ (2 ^ 120) (rw won_is (omega (arith, ints, c.won.ensures.least, c.won.ensures.most)))) in
    let others = λ (j : ℕ). not (is_member c.args.members.now j) in
    let item = c.counted-sum.ensures ∙ counted-same (not c.is_among.result) (others (k + 1)) _
    (worth_in (market_of c.args.book.now) c.args.choice.now (k + 1)) (ap not c.is_among.ensures) (won_is ∙ c.won.ensures.won) in
    let few : c.loop-k.k < 16 = omega (arith, c.bidders-k-end.ensures.most) in
    let sum = next-is (to_z w128 c.loop-k.sum-bits) c.counted-sum.result k few own c.loop-k.invariant.size in
    let more = over-next others (worth_in (market_of c.args.book.now) c.args.choice.now) k in
    record {
      sum = sum ∙ (omega (arith, ints, c.loop-k.invariant.sum, item, more));
      size = next-size (to_z w128 c.loop-k.sum-bits) c.counted-sum.result k few own c.loop-k.invariant.size;
    }
