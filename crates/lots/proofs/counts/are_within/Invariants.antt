use Rattle.std.proofs.Common.{◌≡◌, drop}
use Rattle.auction_model.specs.Package.{is_within}
use Rattle.lots.proofs.counts.are_within.Given as goal

abbrev pub invariant-loop-i : goal.invariant-loop-i
invariant-loop-i l = is_within (drop l.i l.counts) (drop l.i l.supply) ≡ is_within l.counts l.supply
