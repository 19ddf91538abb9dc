-- The entries so far.
use Rattle.std.proofs.Common.{◌≡◌, map, take}
use Rattle.relative_cap.specs.OwnRounds.{bid_value}
use Rattle.bid_desk.proofs.slots.copied_entries.Given as goal

abbrev pub invariant-loop-bid : goal.invariant-loop-bid
invariant-loop-bid l = map bid_value l.copies.items ≡ map bid_value (take l.bid-index l.list)
