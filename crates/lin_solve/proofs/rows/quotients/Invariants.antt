use Rattle.std.proofs.Common.{◌≡◌, ℕ, ◌<◌, length, ◌*ℤ◌}
use Rattle.wide_num.specs.Sums.{nth}
use Rattle.lin_solve.proofs.rows.quotients.Given as goal

abbrev pub invariant-loop-x : goal.invariant-loop-x
invariant-loop-x l = record {
  long : length l.out ≡ l.x-index;
  is : (k : ℕ) → k < l.x-index → l.g *ℤ nth l.out k ≡ nth l.v k;
}
