-- The entries so far are those of the list.
use Rattle.std.proofs.Common.{map, take}
use Rattle.relative_cap.specs.OwnRounds.{bid_value}
use Rattle.relative_cap.proofs.TestedLaws.{IsFront}
use Rattle.relative_cap.proofs.entries.follow.Given as goal

abbrev pub invariant-loop-place : goal.invariant-loop-place
invariant-loop-place l = IsFront l.history l.points l.j l.place (take l.place (map bid_value l.list)) l.entries.items
