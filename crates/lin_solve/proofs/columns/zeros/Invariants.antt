use Rattle.std.proofs.Common.{◌≡◌, ℕ, ◌<◌, pos, length}
use Rattle.wide_num.specs.Sums.{nth}
use Rattle.lin_solve.proofs.columns.zeros.Given as goal

abbrev pub invariant-loop-k : goal.invariant-loop-k
invariant-loop-k l = record {
  long : length l.out ≡ l._k;
  zero : (m : ℕ) → m < l._k → nth l.out m ≡ pos 0;
}
