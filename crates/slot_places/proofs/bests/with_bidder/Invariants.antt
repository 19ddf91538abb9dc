use Rattle.std.proofs.Common.{◌≤◌}
use Rattle.slot_places.specs.SetTable.{holds, sum_outside}
use Rattle.slot_places.specs.Steps.{counted, IsBefore, IsHeld, IsBestNext}
use Rattle.slot_places.proofs.bests.with_bidder.Given as goal

-- the numbers up to i are tried
abbrev pub invariant-loop-i : goal.invariant-loop-i
invariant-loop-i l = record {
  held : IsHeld l.search l.set l.best;
  kept : IsBefore (sum_outside (holds l.set) (counted l.search)) l.best.numbers.items l.fn.best.numbers.items;
  best : IsBestNext l.search l.set l.j (λ n. n ≤ l.i) l.best.numbers.items;
}
