use Rattle.std.proofs.Common.{◌≡◌, ℕ, ◌<◌, ◌+◌, ◌*◌, length, slice_index_or, []}
use Rattle.lin_solve.specs.Matrix.{row}
use Rattle.wide_num.specs.Sums.{nth}
use Rattle.lin_solve.proofs.square.Square.new.Given as goal

abbrev pub invariant-loop-k : goal.invariant-loop-k
invariant-loop-k l = record {
  long : length l.lines.items ≡ l.k;
  wide : (j : ℕ) → j < l.k → length (slice_index_or l.lines.items j []) ≡ l.size;
  entries : (j i : ℕ) → j < l.k → i < l.size → row l.lines.items j i ≡ nth l.entries (j * l.size + i);
}
