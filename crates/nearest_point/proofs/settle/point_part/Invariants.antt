use Rattle.std.proofs.Common.{◌≡◌, ℕ, ◌<◌, ◌^◌, ◌*ℤ◌, ◌+ℤ◌, length, unsigned_abs}
use Rattle.wide_num.specs.Sums.{nth, total}
use Rattle.nearest_point.specs.Found.{row_of}
use Rattle.nearest_point.specs.Problem.{weight_at}
use Rattle.nearest_point.proofs.settle.point_part.Given as goal

abbrev pub invariant-loop-j : goal.invariant-loop-j
invariant-loop-j l = record {
  long : length l.out.items ≡ l.j;
  at : (j : ℕ) → j < l.j → nth l.out.items j ≡ l.den *ℤ nth l.target j +ℤ weight_at l.weights j *ℤ total (length l.forced)
      (λ i. nth l.multipliers i *ℤ row_of l.rows l.forced i j);
  small : (j : ℕ) → j < l.j → unsigned_abs (nth l.out.items j) < 2 ^ 113;
}
