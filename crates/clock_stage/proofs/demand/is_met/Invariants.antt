-- What is left decides.
use Rattle.std.proofs.Common.{◌≡◌, drop}
use Rattle.auction_model.specs.Package.{is_within}
use Rattle.clock_stage.proofs.demand.is_met.Given as goal

abbrev pub invariant-loop-category : goal.invariant-loop-category
invariant-loop-category l = is_within (drop l.category l.demand) (drop l.category l.supply) ≡ is_within l.demand l.supply
