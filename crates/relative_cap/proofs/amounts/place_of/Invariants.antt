-- The place lies between both.
use Rattle.std.proofs.Common.{◌≤◌, ◌-◌, length}
use Rattle.relative_cap.specs.Place.{AreBefore, AreBehind}
use Rattle.relative_cap.proofs.amounts.place_of.Given as goal

abbrev pub invariant-loop-low : goal.invariant-loop-low
invariant-loop-low l = record {
  low : l.low ≤ l.high;
  high : l.high ≤ length l.list;
  before : AreBefore l.list l.«package» l.low;
  behind : AreBehind l.list l.«package» l.high;
}

abbrev pub decreases-loop-low : goal.decreases-loop-low
decreases-loop-low l = l.high - l.low
