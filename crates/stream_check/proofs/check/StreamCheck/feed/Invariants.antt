use Rattle.std.proofs.Common.{◌≡◌, ◌≤◌, ◌-◌, ℕ, List, ◌++◌, length, take}
use Rattle.stream_check.specs.Standing.{HasTaken}
use Rattle.stream_check.proofs.check.StreamCheck.feed.Given as goal

abbrev pub decreases-loop-at : goal.decreases-loop-at
decreases-loop-at l = length l.piece - l.at

abbrev pub invariant-loop-at : goal.invariant-loop-at
invariant-loop-at l = record {
  stands : (text : List ℕ) → HasTaken l.fn.self l.fn.room text → HasTaken l.self l.room (text ++ take l.at l.piece);
  book : l.self.book.now ≡ l.fn.self.book.now;
  weights : l.self.weights.now ≡ l.fn.self.weights.now;
  room : length l.room ≡ length l.fn.room;
  within : l.at ≤ length l.piece;
}
