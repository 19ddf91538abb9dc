use Rattle.std.proofs.Common.{map, suc}
use Rattle.value_table.specs.Counted.{AreCountedLines}
use Rattle.value_table.proofs.TableLines.{entries}
use Rattle.value_table.proofs.lines.lines_down.Given as goal

abbrev pub invariant-loop-k : goal.invariant-loop-k
invariant-loop-k g l = AreCountedLines l.lowered (suc l.top) l.k (map (entries g.C.Cell.number) l.lines.items)
