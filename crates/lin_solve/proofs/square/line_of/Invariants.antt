use Rattle.std.proofs.Common.{◌≡◌, ℕ, ◌<◌, ◌+◌, length}
use Rattle.wide_num.specs.Sums.{nth}
use Rattle.lin_solve.proofs.square.line_of.Given as goal

abbrev pub invariant-loop-i : goal.invariant-loop-i
invariant-loop-i l = record {
  long : length l.line ≡ l.i;
  is : (k : ℕ) → k < l.i → nth l.line k ≡ nth l.entries (l.start + k);
}
