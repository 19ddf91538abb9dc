use Rattle.std.proofs.Common.{◌*◌, map, length}
use Rattle.value_table.specs.Raising.{AreInUnits}
use Rattle.value_table.proofs.BlockLaws.{IsRaisedTo}
use Rattle.value_table.proofs.tested.+raise_coarse.Given as goal

abbrev pub decreases-raise_coarse : goal.decreases-raise_coarse
decreases-raise_coarse g l = length l.block.now.counts.now

abbrev pub invariant-loop-row : goal.invariant-loop-row
invariant-loop-row g l =
    let number = g.C.Cell.number in
    record {
      raised : IsRaisedTo number l.block.supply.now l.block.counts.now (map number l.below) (number l.worth) l.initial.line l.line (l.row * l.width);
      units : AreInUnits number l.coarse.shift l.line l.below l.low l.high;
    }
