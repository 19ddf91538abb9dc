use Rattle.std.proofs.Common.{◌≡◌, ℕ, List, ◌+◌, ◌-◌, ap, arith, drop, length, refl, take}
use Rattle.std.proofs.lemmas.List.{length-drop}
use Rattle.auction_model.specs.Place.{states_of}
use Rattle.table_check.proofs.CornerLaws.{block-keeps, part-places, part-small, parts-more}
use Rattle.table_check.proofs.blocks.two_hold.Goals as goal

pub loop-digit-init : goal.loop-digit-init
loop-digit-init c = λ q low high. absurd (omega (arith, low, high))

pub one_holds-requires : goal.one_holds-requires
one_holds-requires c =
    let supply = c.args.block.now.supply.now in
    let lots = c.args.block.now.lots.now in
    let line = c.args.lines.now.line.now in
    let below = c.args.lines.now.below.now in
    let row = c.rest-row in
    let here = c.start-here in
    let back = c.start-back in
    let width = c.width-width.result in
    let k = here.result + width - here.result in
    let m = back.result + width - back.result in
    let one : length row.result.lots.now ≡ length (drop 1 lots) = ap (λ (l : List ℕ). length l) row.ensures.lots in
    record {
      one = omega (arith, one, length-drop 1 lots, c.requires.two);
      places = part-places supply row.result.supply.now here.result k line (take k (drop here.result line)) row.ensures.supply
          (omega (arith, c.width-width.ensures)) (omega (arith, here.ensures.room, c.requires.places)) refl;
      below = part-places supply row.result.supply.now back.result m below (take m (drop back.result below)) row.ensures.supply
          (omega (arith, c.width-width.ensures)) (omega (arith, back.ensures.room, c.requires.places, c.args.lines.now.places)) refl;
      small = part-small line here.result k c.args.lines.now.small;
      small_below = part-small below back.result m c.args.lines.now.small_below;
    }

pub loop-digit-preserved : goal.loop-digit-preserved
loop-digit-preserved c =
    let block = c.args.block.now in
    let lines = c.args.lines.now in
    let row = c.rest-row.result in
    let here = c.start-here in
    let back = c.start-back in
    let width = c.width-width.result in
    let k : here.result + width - here.result ≡ width = omega arith in
    let m : back.result + width - back.result ≡ width = omega arith in
    parts-more row.supply.now row.lots.now c.count-count.result (states_of (drop 1 block.supply.now)) c.loop-digit.digit here.result back.result width
    lines.line.now lines.below.now (take (here.result + width - here.result) (drop here.result lines.line.now))
    (take (back.result + width - back.result) (drop back.result lines.below.now)) c.args.rule.now.worth c.width-width.ensures here.ensures.start
    back.ensures.start (ap (λ (n : ℕ). take n (drop here.result lines.line.now)) k) (ap (λ (n : ℕ). take n (drop back.result lines.below.now)) m)
    c.loop-digit.invariant (c.if-not-one_holds.ensures refl)

pub returns : goal.returns
returns c = λ _.
    let block = c.args.block.now in
    let lines = c.args.lines.now in
    let row = c.rest-row in
    block-keeps block.supply.now block.widths.now block.lots.now row.result.supply.now row.result.lots.now block.first c.count-count.result
    c.loop-digit.digit lines.line.now lines.below.now c.args.rule.now.worth block.is row.ensures.supply row.ensures.lots c.count-count.ensures.count
    (omega (arith, c.loop-digit-test.false, c.parts-digit-end.ensures)) c.loop-digit.invariant
