use Rattle.std.proofs.Common.{◌≤◌, ℕ}
use Rattle.slot_places.specs.Steps.{searched, IsHeld, IsBestNext}
use Rattle.slot_places.proofs.bests.best_after.Given as goal

-- the bidders up to k are tried
abbrev pub invariant-loop-k : goal.invariant-loop-k
invariant-loop-k l = record {
  held : IsHeld l.search l.set l.best;
  best : (h : ℕ) → h ≤ l.k → IsBestNext l.search l.set h (λ n. n ≤ (searched l.search).bids h) l.best.numbers.items;
}
