use Rattle.std.proofs.Common.{ℕ, ◌<◌}
use Rattle.nearest_point.specs.Numbers.{place}
use Rattle.nearest_point.proofs.guess.are_within.Given as goal

abbrev pub invariant-loop-place : goal.invariant-loop-place
invariant-loop-place l = (i : ℕ) → i < l.place-index → place l.places i < l.count
