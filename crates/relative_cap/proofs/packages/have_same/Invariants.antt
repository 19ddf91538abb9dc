-- What is left decides.
use Rattle.std.proofs.Common.{◌≡◌, drop}
use Rattle.auction_model.specs.PackageTests.{is_same}
use Rattle.relative_cap.proofs.packages.have_same.Given as goal

abbrev pub invariant-loop-category : goal.invariant-loop-category
invariant-loop-category l = is_same (drop l.category l.counts) (drop l.category l.others) ≡ is_same l.counts l.others
