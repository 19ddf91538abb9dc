use Rattle.std.proofs.Common.{◌≡◌, ◌≢◌, ℕ, ◌<◌, pos, length}
use Rattle.wide_num.specs.Sums.{nth}
use Rattle.lin_solve.proofs.kernel.unit.Given as goal

abbrev pub invariant-loop-i : goal.invariant-loop-i
invariant-loop-i l = record {
  long : length l.out ≡ l.i;
  one : l.j < l.i → nth l.out l.j ≡ pos 1;
  none : (k : ℕ) → k < l.i → k ≢ l.j → nth l.out k ≡ pos 0;
}
