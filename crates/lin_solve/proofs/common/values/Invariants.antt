use Rattle.std.proofs.Common.{◌≡◌, length}
use Rattle.lin_solve.specs.Pivots.{AreValues}
use Rattle.far_num.specs.Pairs.{far_at, near_at}
use Rattle.lin_solve.proofs.common.values.Given as goal

abbrev pub invariant-loop-pivot : goal.invariant-loop-pivot
invariant-loop-pivot l = record {
  long : length l.out ≡ l.pivot-index;
  values : AreValues l.pivots l.den l.pivot-index (far_at l.out) (near_at l.out);
}
