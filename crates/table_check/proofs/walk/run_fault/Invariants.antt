use Rattle.std.proofs.Common.{ℕ, ◌<◌}
use Rattle.table_check.specs.Faults.{CoversRun}
use Rattle.table_check.proofs.walk.run_fault.Given as goal

abbrev pub invariant-loop-s : goal.invariant-loop-s
invariant-loop-s l = (q : ℕ) → q < l.s → CoversRun l.rule l.start l.stop q
