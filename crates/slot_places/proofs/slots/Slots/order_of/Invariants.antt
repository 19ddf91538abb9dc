use Rattle.std.proofs.Common.{◌-◌, length}
use Rattle.slot_places.proofs.FirstOrders.{SoPlaced}
use Rattle.slot_places.proofs.slots.Slots.order_of.Given as goal

-- as many as the order has are placed
abbrev pub invariant-loop-k : goal.invariant-loop-k
invariant-loop-k l = SoPlaced l.self l.choice l.order (length l.self.bidders - l.k) l.set
