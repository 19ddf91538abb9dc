use Rattle.std.proofs.Common.{◌≡◌, ℕ, ◌<◌, length, pos, ◌-ℤ◌}
use Rattle.wide_num.specs.Sums.{nth}
use Rattle.nearest_point.specs.Problem.{weight_at}
use Rattle.nearest_point.proofs.settle.lowered_target.Given as goal

abbrev pub invariant-loop-weight : goal.invariant-loop-weight
invariant-loop-weight l = record {
  long : length l.out.items ≡ l.weight-index;
  is : (j : ℕ) → j < l.weight-index → nth l.out.items j ≡ pos 0 -ℤ weight_at l.weights j;
}
