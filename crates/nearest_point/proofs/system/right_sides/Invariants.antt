use Rattle.std.proofs.Common.{◌≡◌, ℕ, ◌<◌, ◌≤◌, length, pos, ◌-ℤ◌, unsigned_abs}
use Rattle.far_num.specs.Pairs.{far_at, near_at}
use Rattle.wide_num.specs.Sums.{dot, nth}
use Rattle.nearest_point.specs.Found.{IsEdge, row_of}
use Rattle.nearest_point.specs.Numbers.{place}
use Rattle.nearest_point.specs.Problem.{bounds}
use Rattle.nearest_point.proofs.system.right_sides.Given as goal

abbrev pub invariant-loop-place : goal.invariant-loop-place
invariant-loop-place l = record {
  long : length l.out ≡ l.place-index;
  far : (i : ℕ) → i < l.place-index → far_at l.out i ≡ pos 0 -ℤ dot (length l.target) (row_of l.rows l.forced i) (nth l.lowered);
  near : (i : ℕ) → i < l.place-index → near_at l.out i ≡ bounds l.rows (place l.forced i) -ℤ dot (length l.target) (row_of l.rows l.forced i) (nth l.target);
  small_far : (i : ℕ) → i < l.place-index → unsigned_abs (far_at l.out i) ≤ 120;
  small_near : (edge i : ℕ) → IsEdge edge l.target l.rows → i < l.place-index → unsigned_abs (near_at l.out i) ≤ edge;
}
