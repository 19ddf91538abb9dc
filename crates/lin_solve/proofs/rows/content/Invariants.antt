use Rattle.std.proofs.Common.{◌<◌, ◌^◌, pos, ◌≤ℤ◌, unsigned_abs}
use Rattle.lin_solve.specs.Elimination.{ContentOf}
use Rattle.wide_num.specs.Sums.{nth}
use Rattle.lin_solve.proofs.rows.content.Given as goal

abbrev pub invariant-loop-x : goal.invariant-loop-x
invariant-loop-x l = record {
  is : ContentOf l.x-index (nth l.xs) l.shared;
  sign : pos 0 ≤ℤ l.shared;
  small : unsigned_abs l.shared < 2 ^ 120;
}
