use Rattle.std.proofs.Common.{◌≡◌, ℕ, ◌<◌, pos, ◌≤ℤ◌}
use Rattle.wide_num.specs.Sums.{nth, total}
use Rattle.nearest_point.proofs.tests.are_targets.Given as goal

abbrev pub invariant-loop-x : goal.invariant-loop-x
invariant-loop-x l = record {
  not_negative : (j : ℕ) → j < l.x-index → pos 0 ≤ℤ nth l.target j;
  sum : l.sum ≡ total l.x-index (nth l.target);
  low : pos 0 ≤ℤ l.sum;
  small : l.sum ≤ℤ l.edge;
}
