use Rattle.std.proofs.Common.{◌≤◌, ◌^◌}
use Rattle.choices.proofs.UnitLaws.{IsCeilingSoFar}
use Rattle.choices.proofs.coarse.put_high.Given as goal

abbrev pub invariant-loop-i : goal.invariant-loop-i
invariant-loop-i l = l.seen ≤ 32767 → IsCeilingSoFar (2 ^ l.shift) l.line l.high l.i
