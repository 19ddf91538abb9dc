use Rattle.std.proofs.Common.{pos, ℕ, ◌<◌, ◌≤ℤ◌}
use Rattle.nearest_point.specs.Found.{multiplier_at}
use Rattle.nearest_point.proofs.judge.has_signs.Given as goal

abbrev pub invariant-loop-i : goal.invariant-loop-i
invariant-loop-i l = (i : ℕ) → i < l.i → pos 0 ≤ℤ multiplier_at l.held i
