use Rattle.std.proofs.Common.{◌≡◌, ℕ, ◌<◌, length}
use Rattle.lin_solve.specs.Matrix.{row}
use Rattle.wide_num.specs.Sums.{nth}
use Rattle.lin_solve.proofs.columns.column.Given as goal

abbrev pub invariant-loop-line : goal.invariant-loop-line
invariant-loop-line l = record {
  long : length l.out ≡ l.line-index;
  is : (m : ℕ) → m < l.line-index → nth l.out m ≡ row l.lines m l.i;
}
