use Rattle.value_table.specs.Counted.{AreCountedLines}
use Rattle.value_table.proofs.turn_lines.lines_without.Given as goal

abbrev pub invariant-loop-k : goal.invariant-loop-k
invariant-loop-k l = AreCountedLines l.lowered l.k 0 l.grid
