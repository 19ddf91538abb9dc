use Rattle.std.proofs.Common.{◌≡◌, ◌≤◌, ◌-◌, ℕ, List, ◌++◌, length, take}
use Rattle.cert_stream.specs.Standing.{StandsFor}
use Rattle.cert_stream.proofs.reader.Reader.feed.Given as goal

abbrev pub decreases-loop-at : goal.decreases-loop-at
decreases-loop-at l = length l.piece - l.at

abbrev pub invariant-loop-at : goal.invariant-loop-at
invariant-loop-at l = record {
  stands : (text : List ℕ) → StandsFor l.fn.self l.fn.room text → StandsFor l.self l.room (text ++ take l.at l.piece);
  shape : l.self.shape ≡ l.fn.self.shape;
  room : length l.room ≡ length l.fn.room;
  within : l.at ≤ length l.piece;
}
