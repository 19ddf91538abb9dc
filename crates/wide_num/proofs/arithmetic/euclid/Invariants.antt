use Rattle.std.proofs.Common.{ℕ, ◌<◌, ◌^◌}
use Rattle.std.specs.Int.{IsGcd}
use Rattle.wide_num.proofs.arithmetic.euclid.Given as goal

abbrev pub invariant-loop-y : goal.invariant-loop-y
invariant-loop-y l = record {
  kept : (g : ℕ) → IsGcd l.x l.y g → IsGcd l.fn.a l.fn.b g;
  x_in : l.x < 2 ^ 120;
  y_in : l.y < 2 ^ 120;
}

abbrev pub decreases-loop-y : goal.decreases-loop-y
decreases-loop-y l = l.y
