use Rattle.value_table.proofs.Sizes.{line-sign}
use Rattle.value_table.proofs.lines.put_line.Goals as goal

pub narrow_into-requires-clause-sizes : goal.narrow_into-requires-clause-sizes
narrow_into-requires-clause-sizes g c = c.requires.range.numbers

pub narrow_into-requires-clause-signs : goal.narrow_into-requires-clause-signs
narrow_into-requires-clause-signs g c = line-sign c.args.lowered.now c.args.j c.args.below.now c.requires.bidder.1 c.requires.below
