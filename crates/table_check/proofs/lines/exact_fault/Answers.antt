use Rattle.std.proofs.Common.{◌≡◌, ◌∙◌, ap, arith, rules}
use Rattle.std.proofs.lemmas.Int.{to_z-of_z}
use Rattle.auction_model.specs.Place.{states_of}
use Rattle.cert_soundness.specs.Tests.{states}
use Rattle.table_check.proofs.LineLaws.{block-bid}
use mir.Val.{SFits, to_z, of_z}
use mir.Syntax.{w128}
use Rattle.table_check.proofs.lines.exact_fault.Goals as goal

pub block_fault-requires : goal.block_fault-requires
block_fault-requires c =
    let block = c.of-block.result in
    let all : states_of block.supply.now ≡ states c.args.offers.now.book.now = ap states_of (c.of-block.ensures.supply ∙ c.supply-supply.ensures.supply) in
    record {
      most = omega (arith, all, block.is.states, c.requires.line);
      room = omega (arith, all, c.requires.line);
      shift = omega arith;
    }

pub returns : goal.returns
returns c =
    let pair = c.args.lines.now in
    let block = c.of-block in
    let fits : SFits w128 c.worth-worth.result = search rules in
    block-bid c.args.offers.now c.args.j c.args.i pair.line.now pair.below.now (to_z w128 (of_z w128 c.worth-worth.result)) c.supply-supply.result.now
    c.bid-bid.result.now.package block.result.supply.now block.result.widths.now block.result.lots.now block.result.first c.args.until c.block_fault.result
    block.result.is block.ensures.supply block.ensures.lots block.ensures.rest c.supply-supply.ensures.supply c.bid-bid.ensures.lots
    (to_z-of_z w128 c.worth-worth.result fits ∙ c.worth-worth.ensures.worth) c.block_fault.ensures
