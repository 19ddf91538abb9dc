use Rattle.std.proofs.Common.{◌≡◌}
use Rattle.wide_num.specs.Sums.{dot, nth}
use Rattle.lin_solve.proofs.rows.dot.Given as goal

abbrev pub invariant-loop-i : goal.invariant-loop-i
invariant-loop-i l = l.sum ≡ dot l.i (nth l.line) (nth l.vector)
