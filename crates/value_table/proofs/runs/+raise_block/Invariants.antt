use Rattle.std.proofs.Common.{◌*◌, map, length}
use Rattle.value_table.proofs.BlockLaws.{IsRaisedTo}
use Rattle.value_table.proofs.runs.+raise_block.Given as goal

abbrev pub decreases-raise_block : goal.decreases-raise_block
decreases-raise_block g l = length l.block.now.counts.now

abbrev pub invariant-loop-row : goal.invariant-loop-row
invariant-loop-row g l =
    let number = g.C.Cell.number in
    IsRaisedTo number l.block.supply.now l.block.counts.now (map number l.below) (number l.worth) l.initial.line l.line (l.row * l.width)
