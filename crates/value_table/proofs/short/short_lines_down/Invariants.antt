use Rattle.std.proofs.Common.{map, suc, pos}
use Rattle.value_table.specs.Counted.{AreCountedLines}
use Rattle.value_table.proofs.TableLines.{entries}
use Rattle.value_table.proofs.short.short_lines_down.Given as goal

abbrev pub invariant-loop-k : goal.invariant-loop-k
invariant-loop-k l = AreCountedLines l.lowered (suc l.top) l.k (map (entries (λ n. pos n)) l.lines.items)
