-- In no later round was the bidder eligible.
use Rattle.std.proofs.Common.{ℕ, ◌≤◌, ◌<◌, length}
use Rattle.relative_cap.specs.OwnRounds.{eligibility_in}
use Rattle.relative_cap.proofs.rounds.last_enough.Given as goal

abbrev pub invariant-loop-r : goal.invariant-loop-r
invariant-loop-r l = record {
  first : 1 ≤ l.r;
  last : l.r ≤ length l.history;
  later : (s : ℕ) → l.r < s → s ≤ length l.history → eligibility_in l.history l.j s < l.needed;
}

abbrev pub decreases-loop-r : goal.decreases-loop-r
decreases-loop-r l = l.r
