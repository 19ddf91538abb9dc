use Rattle.std.proofs.Common.{◌∙◌, ◌*◌, ◌+◌, ◌<◌, ◌^◌, ◌≤ℤ◌, ℕ, arith, drop, get_or, pos, refl, subst, sym}
use Rattle.auction_model.specs.Place.{states_of}
use Rattle.table_check.proofs.BlockLaws.{rest-fewer, some-in}
use Rattle.table_check.proofs.CornerLaws.{block-keeps, both-part, part-places, parts-more}
use Rattle.choices.proofs.CoarseLaws.{coarse-keeps, mask-down, mask-here}
use Rattle.table_check.proofs.coarse.+coarse_holds.Goals as goal

pub loop-digit-init : goal.loop-digit-init
loop-digit-init t c = λ q low high. absurd (omega (arith, low, high))

pub is_covered-requires-clause-first : goal.is_covered-requires-clause-first
is_covered-requires-clause-first t c = omega (arith, c.place.ensures.inside, c.requires.places, c.args.lines.now.coarse.places)

pub returns-then-is_covered : goal.returns-then-is_covered
returns-then-is_covered t c = λ _.
    let coarse = c.args.coarse.now in
    let block = c.args.block.now in
    let lines = c.args.lines.now in
    let narrow = lines.narrow in
    coarse-keeps (2 ^ lines.shift) block.supply.now block.lots.now c.place.result coarse.worth narrow.line.now narrow.below.now lines.low.now lines.high.now
    coarse.mask.now c.args.rule.now.worth (c.place.ensures.place ∙ block.is.place) c.requires.places (narrow.places ∙ c.requires.places) lines.coarse
    coarse.some c.requires.worth (mask-here coarse.level block.supply.now block.lots.now coarse.mask.now block.is.some c.if-block-coarse.true
    c.requires.mask) (c.is_covered.ensures c.if-is_covered.true)

pub coarse_holds-requires : goal.coarse_holds-requires
coarse_holds-requires t c =
    let block = c.args.block.now in
    let lines = c.args.lines.now.narrow in
    let supply = block.supply.now in
    let rest = c.rest-rest in
    let part = c.part-part in
    let here = c.start-here in
    let back = c.start-back in
    let width = c.width-width in
    let high : c.loop-digit.digit < get_or supply 0 0 + 1 = omega (arith, c.loop-digit-test.true, c.parts-digit-end.ensures) in (
      omega (arith, c.decreases, rest-fewer block.lots.now rest.result.lots.now rest.ensures.lots block.is.some),
      (
        part-places supply rest.result.supply.now here.result width.result lines.line.now part.result.narrow.line.now rest.ensures.supply width.ensures
            (omega (arith, here.ensures.room, c.requires.places)) part.ensures.line,
        (
          both-part supply rest.result.supply.now c.loop-digit.digit c.count-count.result here.result back.result width.result c.args.rule.now.grow
              lines.line.now lines.below.now part.result.narrow.line.now part.result.narrow.below.now
              (some-in supply block.widths.now block.lots.now block.first block.is) high rest.ensures.supply width.ensures here.ensures.start
              back.ensures.start part.ensures.line part.ensures.below c.requires.grow,
          (
            subst (λ (s : ℕ). c.args.rule.now.worth ≤ℤ pos (c.args.coarse.now.worth * 2 ^ s)) (sym part.ensures.shift) c.requires.worth,
            rw (rest.ensures.supply, rest.ensures.lots) (mask-down c.args.coarse.now.level supply block.lots.now c.args.coarse.now.mask.now block.is.some
                (some-in supply block.widths.now block.lots.now block.first block.is) c.requires.mask),
          ),
        ),
      ),
    )

pub loop-digit-preserved : goal.loop-digit-preserved
loop-digit-preserved t c =
    let lines = c.args.lines.now.narrow in
    let rest = c.rest-rest.result in
    let part = c.part-part in
    let here = c.start-here in
    let back = c.start-back in
    parts-more rest.supply.now rest.lots.now c.count-count.result (states_of (drop 1 c.args.block.now.supply.now)) c.loop-digit.digit here.result
    back.result c.width-width.result lines.line.now lines.below.now part.result.narrow.line.now part.result.narrow.below.now c.args.rule.now.worth
    c.width-width.ensures here.ensures.start back.ensures.start part.ensures.line part.ensures.below c.loop-digit.invariant
    (c.if-not-coarse_holds.ensures refl)

pub returns : goal.returns
returns t c = λ _.
    let block = c.args.block.now in
    let lines = c.args.lines.now.narrow in
    let rest = c.rest-rest in
    block-keeps block.supply.now block.widths.now block.lots.now rest.result.supply.now rest.result.lots.now block.first c.count-count.result
    c.loop-digit.digit lines.line.now lines.below.now c.args.rule.now.worth block.is rest.ensures.supply rest.ensures.lots c.count-count.ensures.count
    (omega (arith, c.loop-digit-test.false, c.parts-digit-end.ensures)) c.loop-digit.invariant
