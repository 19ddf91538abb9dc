use Rattle.std.proofs.Common.{◌≡◌, ◌*◌, ◌^◌, ◌*ℤ◌, ◌≤◌, unsigned_abs}
use Rattle.wide_num.specs.Sums.{nth, total}
use Rattle.nearest_point.specs.Found.{row_of}
use Rattle.nearest_point.proofs.settle.column.Given as goal

abbrev pub invariant-loop-i : goal.invariant-loop-i
invariant-loop-i l = record {
  value : l.sum ≡ total l.i (λ i. nth l.multipliers i *ℤ row_of l.rows l.forced i l.j);
  small : unsigned_abs l.sum ≤ l.i * 2 ^ 106;
}
