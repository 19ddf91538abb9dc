use Rattle.std.proofs.Common.{◌+◌, ◌<◌, arith, drop, get_or, refl}
use Rattle.auction_model.specs.Place.{states_of}
use Rattle.table_check.proofs.BlockLaws.{rest-fewer, some-in}
use Rattle.table_check.proofs.CornerLaws.{block-keeps, both-part, part-places, parts-more}
use Rattle.table_check.proofs.blocks.+block_holds.Goals as goal

pub loop-digit-init : goal.loop-digit-init
loop-digit-init t c = λ q low high. absurd (omega (arith, low, high))

pub block_holds-requires : goal.block_holds-requires
block_holds-requires t c =
    let block = c.args.block.now in
    let lines = c.args.lines.now in
    let supply = block.supply.now in
    let rest = c.rest-rest in
    let part = c.part-part in
    let here = c.start-here in
    let back = c.start-back in
    let width = c.width-width in
    let high : c.loop-digit.digit < get_or supply 0 0 + 1 = omega (arith, c.loop-digit-test.true, c.parts-digit-end.ensures) in (
      omega (arith, c.decreases, rest-fewer block.lots.now rest.result.lots.now rest.ensures.lots block.is.some),
      (
        part-places supply rest.result.supply.now here.result width.result lines.line.now part.result.line.now rest.ensures.supply width.ensures
            (omega (arith, here.ensures.room, c.requires.places)) part.ensures.line,
        both-part supply rest.result.supply.now c.loop-digit.digit c.count-count.result here.result back.result width.result c.args.rule.now.grow
            lines.line.now lines.below.now part.result.line.now part.result.below.now
            (some-in supply block.widths.now block.lots.now block.first block.is) high rest.ensures.supply width.ensures here.ensures.start
            back.ensures.start part.ensures.line part.ensures.below c.requires.grow,
      ),
    )

pub loop-digit-preserved : goal.loop-digit-preserved
loop-digit-preserved t c =
    let lines = c.args.lines.now in
    let rest = c.rest-rest.result in
    let part = c.part-part in
    let here = c.start-here in
    let back = c.start-back in
    parts-more rest.supply.now rest.lots.now c.count-count.result (states_of (drop 1 c.args.block.now.supply.now)) c.loop-digit.digit here.result
    back.result c.width-width.result lines.line.now lines.below.now part.result.line.now part.result.below.now c.args.rule.now.worth
    c.width-width.ensures here.ensures.start back.ensures.start part.ensures.line part.ensures.below c.loop-digit.invariant
    (c.if-not-block_holds.ensures refl)

pub returns : goal.returns
returns t c = λ _.
    let block = c.args.block.now in
    let lines = c.args.lines.now in
    let rest = c.rest-rest in
    block-keeps block.supply.now block.widths.now block.lots.now rest.result.supply.now rest.result.lots.now block.first c.count-count.result
    c.loop-digit.digit lines.line.now lines.below.now c.args.rule.now.worth block.is rest.ensures.supply rest.ensures.lots c.count-count.ensures.count
    (omega (arith, c.loop-digit-test.false, c.parts-digit-end.ensures)) c.loop-digit.invariant
