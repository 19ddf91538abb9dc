use Rattle.std.proofs.Common.{◌≡◌, length}
use Rattle.stream_check.proofs.check.StreamCheck.start.Given as goal

abbrev pub invariant-loop-k : goal.invariant-loop-k
invariant-loop-k l = length l.room ≡ length l.fn.room
