use Rattle.slot_places.specs.Board.{board_of}
use Rattle.slot_places.specs.SetTable.{holds}
use Rattle.slot_places.proofs.NextLaws.{NoneTo}
use Rattle.slot_places.proofs.slots.Slots.next_bidder.Given as goal

-- none of the bidders up to k can be next
abbrev pub invariant-loop-k : goal.invariant-loop-k
invariant-loop-k l = NoneTo (board_of l.self) l.numbers l.left (holds l.set) l.k
