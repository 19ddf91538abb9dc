use Rattle.std.proofs.Common.{length, ◌≤◌}
use Rattle.nearest_point.proofs.guess.last_independent.Given as goal

abbrev pub invariant-loop-k : goal.invariant-loop-k
invariant-loop-k l = l.k ≤ length l.rows

abbrev pub decreases-loop-k : goal.decreases-loop-k
decreases-loop-k l = l.k
