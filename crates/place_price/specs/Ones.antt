-- Weights of 1.
use Rattle.std.specs.Prelude.{ℕ, List, length, replicate}
use Rattle.slot_places.specs.Slots.{SlotList}

-- a weight of 1 for each bidder
abbrev pub ones : SlotList → List ℕ
ones slots = replicate (length slots.bidders) 1
