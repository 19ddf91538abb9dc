use Rattle.std.proofs.Common.{◌≡◌, map, take}
use Rattle.value_table.specs.Counted.{AreCountedLines}
use Rattle.value_table.proofs.TableLines.{entries}
use Rattle.value_table.proofs.lines.grid_of.Given as goal

abbrev pub invariant-loop-i : goal.invariant-loop-i
invariant-loop-i g l = record {
  made : l.grid ≡ take l.i (map (entries g.C.Cell.number) l.lines);
  done : AreCountedLines l.lowered l.i 0 l.grid;
}
