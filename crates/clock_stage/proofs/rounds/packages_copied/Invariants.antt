-- The packages so far.
use Rattle.std.proofs.Common.{◌≡◌, take}
use Rattle.clock_stage.proofs.rounds.packages_copied.Given as goal

abbrev pub invariant-loop-package : goal.invariant-loop-package
invariant-loop-package l = l.copies.items ≡ take l.package-index l.packages
