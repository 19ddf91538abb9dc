use Rattle.std.proofs.Common.{◌≡◌, ◌+◌, ◌*◌, ◌^◌, ◌≤◌, drop}
use Rattle.auction_model.specs.Package.{cost_of}
use Rattle.lots.proofs.counts.cost_among.Given as goal

abbrev pub invariant-loop-i : goal.invariant-loop-i
invariant-loop-i l = record {
  whole : l.cost + cost_of (drop l.i l.prices) (drop l.i l.counts) ≡ cost_of l.prices l.counts;
  most : l.cost ≤ l.i * 2 ^ 52;
}
