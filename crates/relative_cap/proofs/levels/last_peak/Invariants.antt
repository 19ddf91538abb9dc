-- The last place that is enough lies between both.
use Rattle.std.proofs.Common.{◌≡◌, ◌⊎◌, ◌≤◌, ◌<◌, ◌-◌}
use Rattle.std.specs.Prelude.{slice_index}
use Rattle.relative_cap.proofs.levels.last_peak.Given as goal

abbrev pub invariant-loop-high : goal.invariant-loop-high
invariant-loop-high l = record {
  apart : l.low < l.high;
  inside : l.high ≤ l.rounds;
  enough : l.needed ≤ slice_index l.peaks l.low;
  later : (l.high ≡ l.rounds) ⊎ (slice_index l.peaks l.high < l.needed);
}

abbrev pub decreases-loop-high : goal.decreases-loop-high
decreases-loop-high l = l.high - l.low
