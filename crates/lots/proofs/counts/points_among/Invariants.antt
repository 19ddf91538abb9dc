use Rattle.std.proofs.Common.{◌≡◌, ◌+◌, ◌*◌, ◌^◌, ◌≤◌, drop}
use Rattle.auction_model.specs.Package.{cost_of}
use Rattle.lots.proofs.counts.points_among.Given as goal

abbrev pub invariant-loop-i : goal.invariant-loop-i
invariant-loop-i l = record {
  whole : l.sum + cost_of (drop l.i l.points) (drop l.i l.counts) ≡ cost_of l.points l.counts;
  most : l.sum ≤ l.i * 2 ^ 30;
}
