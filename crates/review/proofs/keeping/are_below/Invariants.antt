use Rattle.std.proofs.Common.{◌<◌, ℕ}
use Rattle.review.specs.Reviewed.{IsBelowAt}
use Rattle.review.proofs.keeping.are_below.Given as goal

-- it holds at each place so far
abbrev pub invariant-loop-place : goal.invariant-loop-place
invariant-loop-place l = (s : ℕ) → s < l.place → IsBelowAt l.supply l.package l.before l.after l.limit s
