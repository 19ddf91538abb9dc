use Rattle.std.proofs.Common.{◌≡◌, ◌+◌, ◌*◌, ◌^◌, ◌≤◌, drop}
use Rattle.outcome.specs.Prices.{reserves_of}
use Rattle.outcome.proofs.lines.reserves.Given as goal

abbrev pub invariant-loop-price : goal.invariant-loop-price
invariant-loop-price l = record {
  value : l.sum + reserves_of (drop l.price-index l.prices) ≡ reserves_of l.prices;
  small : l.sum ≤ l.price-index * 2 ^ 64;
}
