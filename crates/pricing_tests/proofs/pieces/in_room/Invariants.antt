use Rattle.std.proofs.Common.{◌≡◌, ◌≤◌, ◌-◌, length, take}
use Rattle.cert_stream.specs.Rooms.{room_size}
use Rattle.cert_stream.specs.Standing.{StandsFor}
use Rattle.pricing_tests.proofs.pieces.in_room.Given as goal

abbrev pub decreases-loop-at : goal.decreases-loop-at
decreases-loop-at l = l.most - l.at

abbrev pub invariant-loop-at : goal.invariant-loop-at
invariant-loop-at l = record {
  stands : StandsFor l.reader l.room (take l.at l.text);
  shape : l.reader.shape ≡ l.fn.shape;
  room : length l.room ≡ room_size l.fn.shape.bidders l.fn.shape.states;
  within : l.at ≤ l.most;
}
