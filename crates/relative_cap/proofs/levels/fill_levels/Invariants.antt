-- The levels from the place on.
use Rattle.std.proofs.Common.{◌≡◌, ◌≤◌, length}
use Rattle.relative_cap.specs.Levels.{peak_from, ArePeaksFrom, AreHighsFrom}
use Rattle.relative_cap.proofs.levels.fill_levels.Given as goal

abbrev pub invariant-loop-place : goal.invariant-loop-place
invariant-loop-place l = record {
  inside : l.place ≤ length l.history;
  peak : l.peak ≡ peak_from l.history l.j l.place;
  peaks_room : length l.history ≤ length l.peaks;
  highs_room : length l.history ≤ length l.highs;
  each_peak : ArePeaksFrom l.place l.history l.j l.peaks;
  each_high : AreHighsFrom l.place l.history l.j l.highs;
}

abbrev pub decreases-loop-place : goal.decreases-loop-place
decreases-loop-place l = l.place
