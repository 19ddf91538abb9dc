use Rattle.std.proofs.Common.{length}
use Rattle.table_check.specs.Faults.{FirstFault}
use Rattle.table_check.specs.LineTests.{KeepsSome}
use Rattle.table_check.proofs.lines.pair_fault.Given as goal

abbrev pub invariant-loop-i : goal.invariant-loop-i
invariant-loop-i l = FirstFault (KeepsSome l.offers l.j l.lines.line.now l.lines.below.now l.i) (length l.lines.line.now) l.found
