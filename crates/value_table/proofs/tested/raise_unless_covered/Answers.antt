use Rattle.std.proofs.Common.{◌∙◌, ◌^◌, arith, map}
use Rattle.std.proofs.lemmas.List.{length-map}
use Rattle.choices.proofs.CoarseLaws.{coarse-keeps, mask-here}
use Rattle.value_table.proofs.BlockLaws.{first-inside}
use Rattle.value_table.proofs.CoarseBlocks.{kept-none, units-anew}
use Rattle.value_table.proofs.tested.raise_unless_covered.Goals as goal

pub is_covered-requires-clause-first : goal.is_covered-requires-clause-first
is_covered-requires-clause-first g c =
    let b = c.args.block.now in
    omega (
      arith,
      c.requires.units.places,
      first-inside g.C.Cell.number g.C.Cell.most b.supply.now b.widths.now b.counts.now b.first b.is c.args.line.now c.args.below.now c.args.worth
          c.requires.lines,
    )

pub is_covered-requires-clause-short : goal.is_covered-requires-clause-short
is_covered-requires-clause-short g c = λ s h.
    c.requires.units.coarse.ceiling.short s (omega (arith, h, c.requires.units.places_below, length-map c.args.below.now g.C.Cell.number))

pub returns-then-is_covered-clause-line : goal.returns-then-is_covered-clause-line
returns-then-is_covered-clause-line g c = λ s h.
    let number = g.C.Cell.number in
    let coarse = c.args.coarse.now in
    let b = c.args.block.now in
    let supply = b.supply.now in
    let counts = b.counts.now in
    let line = c.args.line.now in
    let below = c.args.below.now in
    kept-none supply counts (map number line) (map number below) (number c.args.worth)
    (coarse-keeps (2 ^ coarse.shift) supply counts b.first coarse.worth (map number line) (map number below) c.args.low.now c.args.high.now
    coarse.mask.now (number c.args.worth) b.is.place (length-map line number ∙ c.requires.lines.line)
    (length-map below number ∙ c.requires.lines.places) c.requires.units.coarse coarse.some c.requires.worth
    (mask-here coarse.level supply counts coarse.mask.now b.is.some c.if-block-coarse.true c.requires.mask)
    (c.is_covered.ensures c.if-is_covered.true)) s (omega (arith, h, c.requires.lines.line))

pub returns-clause-units : goal.returns-clause-units
returns-clause-units g c =
    units-anew g.C.Cell.number c.args.coarse.now.shift c.args.line.now c.raise_block.new.line c.args.below.now c.args.low.now c.put_low.new.low
    c.args.high.now c.requires.units c.put_low.ensures.floor c.put_low.ensures.places
