-- The lines so far were replayed.
use Rattle.std.proofs.Common.{reverse, take}
use Rattle.log_replay.specs.Course.{IsCourse}
use Rattle.log_replay.proofs.replaying.take_all.Given as goal

abbrev pub invariant-loop-i : goal.invariant-loop-i
invariant-loop-i l = IsCourse l.fn.award (reverse (take l.i l.log)) l.course
