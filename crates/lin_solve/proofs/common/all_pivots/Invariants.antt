use Rattle.std.proofs.Common.{◌≡◌, length}
use Rattle.wide_num.specs.Sums.{nth}
use Rattle.lin_solve.specs.Pivots.{ArePivots}
use Rattle.lin_solve.proofs.common.all_pivots.Given as goal

abbrev pub invariant-loop-i : goal.invariant-loop-i
invariant-loop-i l = record {
  long : length l.all.items ≡ l.i;
  pivots : ArePivots l.lines (nth l.fars) (nth l.nears) l.i l.all.items;
}
