use Rattle.std.proofs.Common.{◌≡◌, ◌≤◌, ◌-◌, length, take}
use Rattle.cert_soundness.specs.Tests.{bidders_of, states}
use Rattle.cert_stream.specs.Rooms.{room_size}
use Rattle.stream_check.specs.Standing.{HasTaken}
use Rattle.pricing_tests.proofs.streams.fed.Given as goal

abbrev pub decreases-loop-at : goal.decreases-loop-at
decreases-loop-at l = l.most - l.at

abbrev pub invariant-loop-at : goal.invariant-loop-at
invariant-loop-at l = record {
  stands : HasTaken l.checker l.room (take l.at l.text);
  book : l.checker.book.now ≡ l.fn.book;
  room : length l.room ≡ room_size (bidders_of l.fn.book) (states l.fn.book);
  within : l.at ≤ l.most;
}
