-- What is left decides.
use Rattle.std.proofs.Common.{◌≡◌, drop}
use Rattle.auction_model.specs.PackageTests.{is_before}
use Rattle.relative_cap.proofs.packages.come_before.Given as goal

abbrev pub invariant-loop-category : goal.invariant-loop-category
invariant-loop-category l = is_before (drop l.category l.counts) (drop l.category l.others) ≡ is_before l.counts l.others
