use Rattle.std.proofs.Common.{◌≡◌, ◌≤◌, ◌*◌, ◌^◌, ◌+ℤ◌, ◌≤ℤ◌, pos, drop, unsigned_abs}
use Rattle.auction_model.specs.Market.{sum_after}
use Rattle.slot_places.specs.Slots.{amount_of}
use Rattle.placement_check.proofs.amounts.worth.Given as goal

abbrev pub invariant-loop-k : goal.invariant-loop-k
invariant-loop-k l = record {
  whole : l.sum +ℤ sum_after (amount_of l.slots) l.k (drop l.k l.numbers) ≡ sum_after (amount_of l.slots) 0 l.numbers;
  not_negative : pos 0 ≤ℤ l.sum;
  size : unsigned_abs l.sum ≤ l.k * 2 ^ 42;
}
