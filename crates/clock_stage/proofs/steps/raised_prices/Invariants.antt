-- The prices so far, and those of what is left.
use Rattle.std.proofs.Common.{◌≡◌, ◌++◌, drop}
use Rattle.auction_rules.specs.Rounds.{raised_prices}
use Rattle.clock_stage.proofs.steps.raised_prices.Given as goal

abbrev pub invariant-loop-category : goal.invariant-loop-category
invariant-loop-category l =
    l.next.items ++ raised_prices l.table.tick l.table.thresholds (drop l.category l.prices) (drop l.category l.demand) (drop l.category l.supply)
    ≡ raised_prices l.table.tick l.table.thresholds l.prices l.demand l.supply
