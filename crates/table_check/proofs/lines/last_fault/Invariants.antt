use Rattle.std.proofs.Common.{ℕ, ◌<◌}
use Rattle.table_check.specs.LineTests.{KeepsZero}
use Rattle.table_check.proofs.lines.last_fault.Given as goal

abbrev pub invariant-loop-s : goal.invariant-loop-s
invariant-loop-s l = (q : ℕ) → q < l.s → KeepsZero l.line q
