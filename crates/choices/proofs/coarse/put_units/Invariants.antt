use Rattle.std.proofs.Common.{◌<◌, ◌^◌}
use Rattle.choices.proofs.UnitLaws.{IsFloorSoFar}
use Rattle.choices.proofs.coarse.put_units.Given as goal

abbrev pub invariant-loop-i : goal.invariant-loop-i
invariant-loop-i l = l.seen < 2 ^ 63 → IsFloorSoFar (2 ^ l.shift) l.line l.low l.i
