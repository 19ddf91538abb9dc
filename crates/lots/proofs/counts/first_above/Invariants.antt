-- What is left decides.
use Rattle.std.proofs.Common.{◌≡◌, ◌+◌, drop}
use Rattle.auction_model.specs.PackageTests.{first_over}
use Rattle.lots.proofs.counts.first_above.Given as goal

abbrev pub invariant-loop-category : goal.invariant-loop-category
invariant-loop-category l = first_over (l.category + 1) (drop l.category l.counts) (drop l.category l.supply) ≡ first_over 1 l.counts l.supply
