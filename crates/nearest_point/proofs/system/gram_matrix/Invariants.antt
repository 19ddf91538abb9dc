use Rattle.std.proofs.Common.{◌≡◌, ℕ, ◌*◌, ◌<◌, ◌/◌, ◌%◌, length, pos, ◌≤ℤ◌}
use Rattle.wide_num.specs.Sums.{nth}
use Rattle.nearest_point.specs.Found.{IsBelowBy, common, row_of}
use Rattle.nearest_point.proofs.system.gram_matrix.Given as goal

abbrev pub invariant-loop-place : goal.invariant-loop-place
invariant-loop-place l = record {
  long : length l.entries.items ≡ l.place;
  entries : (p : ℕ) → p < l.place → nth l.entries.items p ≡ common (length l.lowered) (row_of l.rows l.forced (p / l.size))
      (row_of l.rows l.forced (p % l.size)) (nth l.lowered);
  small : (p : ℕ) → p < l.place → (top : ℕ) → IsBelowBy top l.lowered → (pos 0 ≤ℤ nth l.entries.items p)
      × (nth l.entries.items p ≤ℤ pos (length l.lowered * top));
}
