-- The sums so far, and those of what is left, which is as it was.
use Rattle.std.proofs.Common.{◌≡◌, ℕ, ◌<◌, ◌≤◌, ◌++◌, drop, take, length, get_or}
use Rattle.auction_model.specs.Package.{together}
use Rattle.clock_stage.proofs.demand.add_package.Given as goal

abbrev pub invariant-loop-category : goal.invariant-loop-category
invariant-loop-category l =
    (take l.category l.sum ++ together (drop l.category l.sum) (drop l.category l.counts) ≡ together l.initial.sum l.counts)
    × ((k : ℕ) → l.category ≤ k → k < length l.sum → get_or l.sum k 0 ≡ get_or l.initial.sum k 0)
