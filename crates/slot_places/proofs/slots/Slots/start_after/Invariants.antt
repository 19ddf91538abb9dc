use Rattle.std.proofs.Common.{◌≡◌, ◌+◌, cond}
use Rattle.auction_model.specs.Lowered.{sum_to}
use Rattle.slot_places.specs.Slots.{width_of}
use Rattle.slot_places.specs.SetTable.{holds}
use Rattle.slot_places.proofs.slots.Slots.start_after.Given as goal

abbrev pub invariant-loop-k : goal.invariant-loop-k
invariant-loop-k l = l.start ≡ 1 + sum_to (λ j. cond (holds l.set j) (width_of l.self j) 0) l.k
