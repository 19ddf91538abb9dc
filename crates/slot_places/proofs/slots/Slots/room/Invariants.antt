use Rattle.std.proofs.Common.{◌≡◌}
use Rattle.auction_model.specs.Lowered.{sum_to}
use Rattle.slot_places.specs.Slots.{width_of}
use Rattle.slot_places.proofs.slots.Slots.room.Given as goal

-- the widths of the bidders up to k
abbrev pub invariant-loop-k : goal.invariant-loop-k
invariant-loop-k l = l.used ≡ sum_to (width_of l.self) l.k
