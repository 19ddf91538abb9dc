use Rattle.slot_places.proofs.OrderSteps.{SoTested}
use Rattle.slot_places.proofs.slots.Slots.allows.Given as goal

-- the entries before j are tested
abbrev pub invariant-loop-j : goal.invariant-loop-j
invariant-loop-j l = SoTested l.self l.choice l.order l.j-index l.set
