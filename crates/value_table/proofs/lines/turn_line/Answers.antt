use Rattle.value_table.proofs.lines.turn_line.Goals as goal

pub add_idle-requires-clause-line : goal.add_idle-requires-clause-line
add_idle-requires-clause-line g c = rw c.requires.copied c.requires.below

pub add_idle-requires-clause-range : goal.add_idle-requires-clause-range
add_idle-requires-clause-range g c = rw c.requires.copied c.requires.range
