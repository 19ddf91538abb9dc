-- The entries before the place stay.
use Rattle.std.proofs.Common.{length, map, take}
use Rattle.relative_cap.specs.Tested.{tested_bid}
use Rattle.relative_cap.proofs.TestedLaws.{IsFront}
use Rattle.relative_cap.proofs.entries.put_among.Given as goal

abbrev pub invariant-loop-entries : goal.invariant-loop-entries
invariant-loop-entries l = IsFront l.history l.points l.j l.place (take l.place (map tested_bid l.initial.entries.items)) l.entries.items

abbrev pub decreases-loop-entries : goal.decreases-loop-entries
decreases-loop-entries l = length l.entries.items
