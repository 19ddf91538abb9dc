-- The sum of the categories passed so far, and of those that are left.
use Rattle.std.proofs.Common.{◌≡◌, ◌+◌, ◌*◌, ◌^◌, ◌≤◌, drop}
use Rattle.auction_model.specs.Package.{cost_of, together}
use Rattle.award_file.proofs.caps.weight_of.Given as goal

abbrev pub invariant-loop-i : goal.invariant-loop-i
invariant-loop-i l = record {
  whole : l.sum + cost_of (drop l.i l.weights) (together (drop l.i l.counts) (drop l.i l.holding)) ≡ cost_of l.weights (together l.counts l.holding);
  most : l.sum ≤ l.i * 2 ^ 27;
}
