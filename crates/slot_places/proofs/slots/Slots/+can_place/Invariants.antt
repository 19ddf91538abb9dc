use Rattle.std.proofs.Common.{◌-◌}
use Rattle.slot_places.specs.Board.{board_of}
use Rattle.slot_places.specs.SetTable.{holds}
use Rattle.slot_places.proofs.NextLaws.{NoneTo}
use Rattle.slot_places.proofs.slots.Slots.+can_place.Given as goal

abbrev pub decreases-can_place : goal.decreases-can_place
decreases-can_place l = l.left

-- none of the bidders up to k can be next
abbrev pub invariant-loop-k : goal.invariant-loop-k
invariant-loop-k l = NoneTo (board_of l.self) l.numbers (l.left - 1) (holds l.set) l.k
