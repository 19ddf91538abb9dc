-- The points of the packages so far.
use Rattle.std.proofs.Common.{◌≡◌, take, map}
use Rattle.auction_model.specs.Package.{cost_of}
use Rattle.clock_stage.proofs.rounds.points_of.Given as goal

abbrev pub invariant-loop-package : goal.invariant-loop-package
invariant-loop-package l = l.sums.items ≡ map (cost_of l.points) (take l.package-index l.packages)
