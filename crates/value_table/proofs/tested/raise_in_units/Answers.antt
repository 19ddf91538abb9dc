use Rattle.value_table.proofs.BlockLaws.{first-inside, reached-none}
use Rattle.value_table.proofs.CoarseBlocks.{units-anew}
use Rattle.value_table.proofs.tested.raise_in_units.Goals as goal

pub is_reached-requires-clause-first : goal.is_reached-requires-clause-first
is_reached-requires-clause-first g c =
    let b = c.args.block.now in
    first-inside g.C.Cell.number g.C.Cell.most b.supply.now b.widths.now b.counts.now b.first b.is c.args.line.now c.args.below.now c.args.worth
    c.requires.lines

pub is_reached-requires-clause-lines : goal.is_reached-requires-clause-lines
is_reached-requires-clause-lines g c = rw c.requires.lines.line c.requires.lines

pub returns-then-is_reached-clause-line : goal.returns-then-is_reached-clause-line
returns-then-is_reached-clause-line g c =
    let b = c.args.block.now in
    reached-none g.C.Cell.number g.C.Cell.most b.supply.now b.widths.now b.counts.now b.first b.is c.args.line.now c.args.below.now c.args.worth
    c.requires.lines c.requires.grow (c.is_reached.ensures.0 c.if-is_reached.true)

pub returns-then-units-eq0-clause-units : goal.returns-then-units-eq0-clause-units
returns-then-units-eq0-clause-units g c =
    units-anew g.C.Cell.number c.args.shift c.args.line.now c.raise_block.new.line c.args.below.now c.args.low.now c.put_low.new.low
    c.args.high.now c.requires.units c.put_low.ensures.floor c.put_low.ensures.places
