use Rattle.std.proofs.Common.{◌∙◌, ℤ, List, ap, length}
use Rattle.table_check.proofs.CornerLaws.{same-grow, same-keep}
use Rattle.table_check.proofs.coarse.rule_holds.Goals as goal

pub masked_holds-requires : goal.masked_holds-requires
masked_holds-requires c =
    let pair = c.args.lines.now in
    let own = c.in_16_bits in
    record {
      places = ap (λ (l : List ℤ). length l) own.ensures.line ∙ c.requires.places;
      grow = same-grow c.args.block.now.supply.now c.args.rule.now.grow pair.line.now pair.below.now own.result.narrow.line.now own.result.narrow.below.now
          own.ensures.line own.ensures.below c.requires.grow;
    }

pub returns-then-lines : goal.returns-then-lines
returns-then-lines c = λ h.
    let block = c.args.block.now in
    let pair = c.args.lines.now in
    let own = c.in_16_bits in
    same-keep block.supply.now block.lots.now pair.line.now pair.below.now own.result.narrow.line.now own.result.narrow.below.now c.args.rule.now.worth
    own.ensures.line own.ensures.below (c.masked_holds.ensures h)

pub block_holds-requires : goal.block_holds-requires
block_holds-requires c =
    let pair = c.args.lines.now in
    let own = c.in_64_bits in
    record {
      places = ap (λ (l : List ℤ). length l) own.ensures.line ∙ c.requires.places;
      grow = same-grow c.args.block.now.supply.now c.args.rule.now.grow pair.line.now pair.below.now own.result.line.now own.result.below.now
          own.ensures.line own.ensures.below c.requires.grow;
    }

pub returns : goal.returns
returns c = λ h.
    let block = c.args.block.now in
    let pair = c.args.lines.now in
    let own = c.in_64_bits in
    same-keep block.supply.now block.lots.now pair.line.now pair.below.now own.result.line.now own.result.below.now c.args.rule.now.worth
    own.ensures.line own.ensures.below (c.block_holds.ensures h)
