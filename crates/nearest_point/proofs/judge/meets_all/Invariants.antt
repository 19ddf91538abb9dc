use Rattle.std.proofs.Common.{length, ℕ, ◌*ℤ◌, ◌<◌, ◌≤ℤ◌}
use Rattle.nearest_point.specs.Found.{point_at}
use Rattle.nearest_point.specs.Problem.{bounds, coefficients}
use Rattle.wide_num.specs.Sums.{dot}
use Rattle.nearest_point.proofs.judge.meets_all.Given as goal

abbrev pub invariant-loop-k : goal.invariant-loop-k
invariant-loop-k l = (k : ℕ) → k < l.k → (l.held.den *ℤ bounds l.rows k) ≤ℤ dot (length l.held.far.items) (coefficients l.rows k) (point_at l.held)
