use Rattle.std.proofs.Common.{◌≡◌, ◌+◌, ◌≤◌, ap, arith, drop, get_or, length}
use Rattle.auction_model.specs.Place.{states_of}
use Rattle.table_check.proofs.BlockLaws.{all-block, more-block, rest-fewer, rest-shift, start-block}
use Rattle.table_check.proofs.walk.+block_fault.Goals as goal

pub loop-digit-init : goal.loop-digit-init
loop-digit-init t c =
    let block = c.args.block.now in
    start-block c.args.rule.now c.args.base block.supply.now block.widths.now block.lots.now block.first c.args.until c.count-digit.result block.is
    c.count-digit.ensures.count

pub block_fault-found-requires : goal.block_fault-found-requires
block_fault-found-requires t c =
    let base = c.args.base in
    let block = c.args.block.now in
    let supply = block.supply.now in
    let rest = c.rest-rest in
    let here = c.start-here in
    let low : get_or block.lots.now 0 0 ≤ c.loop-digit.digit = omega (arith, c.count-digit.ensures.count, c.loop-digit.auto.digit) in
    let states : states_of rest.result.supply.now ≡ states_of (drop 1 supply) = ap states_of rest.ensures.supply in
    let room : base + here.result + states_of rest.result.supply.now ≤ length c.args.rule.now.line.now =
    omega (arith, states, here.ensures.room, c.requires.room) in
    let shift : c.args.rule.now.shift ≤ base + here.result + rest.result.first =
    rest-shift (get_or block.lots.now 0 0) c.loop-digit.digit (states_of (drop 1 supply)) here.result block.first rest.result.first base
    c.args.rule.now.shift low here.ensures.start rest.ensures.first c.requires.shift in (
      omega (arith, c.decreases, rest-fewer block.lots.now rest.result.lots.now rest.ensures.lots block.is.some),
      (c.requires.most, (room, shift)),
    )

pub loop-digit-preserved : goal.loop-digit-preserved
loop-digit-preserved t c =
    let block = c.args.block.now in
    let rest = c.rest-rest in
    let low : get_or block.lots.now 0 0 ≤ c.loop-digit.digit = omega (arith, c.count-digit.ensures.count, c.loop-digit.auto.digit) in
    more-block c.args.rule.now c.args.base block.supply.now block.widths.now block.lots.now rest.result.supply.now rest.result.lots.now block.first
    c.loop-digit.digit c.start-here.result c.args.until c.loop-digit.found c.block_fault-found.result block.is rest.ensures.supply rest.ensures.lots low
    c.start-here.ensures.start c.loop-digit.invariant c.block_fault-found.ensures

pub returns : goal.returns
returns t c =
    let block = c.args.block.now in
    all-block c.args.rule.now c.args.base block.supply.now block.widths.now block.lots.now block.first c.loop-digit.digit c.args.until c.loop-digit.found
    block.is (omega (arith, c.loop-digit.auto.digit-end, c.loop-digit-test.false, c.parts-digit-end.ensures, c.count-digit.ensures)) c.loop-digit.invariant
