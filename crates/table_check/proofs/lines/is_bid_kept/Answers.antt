use Rattle.std.proofs.Common.{◌∙◌, rules}
use Rattle.std.proofs.lemmas.Int.{to_z-of_z}
use Rattle.table_check.proofs.LineLaws.{kept-bid}
use mir.Val.{SFits, to_z, of_z}
use mir.Syntax.{w128}
use Rattle.table_check.proofs.lines.is_bid_kept.Goals as goal

pub returns : goal.returns
returns c = λ h.
    let pair = c.args.lines.now in
    let fits : SFits w128 c.worth-worth.result = search rules in
    kept-bid c.args.offers.now c.args.j c.args.i pair.line.now pair.below.now (to_z w128 (of_z w128 c.worth-worth.result)) c.supply-supply.result.now
    c.bid-bid.result.now.package c.supply-supply.ensures.supply c.bid-bid.ensures.lots
    (to_z-of_z w128 c.worth-worth.result fits ∙ c.worth-worth.ensures.worth) (c.fast_bid_rule.ensures h)
