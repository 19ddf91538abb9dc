use Rattle.std.proofs.Common.{◌≡◌, ℕ, ◌<◌, length}
use Rattle.wide_num.specs.Sums.{nth}
use Rattle.far_num.specs.Pairs.{far_at}
use Rattle.lin_solve.proofs.solved.far_parts.Given as goal

abbrev pub invariant-loop-pair : goal.invariant-loop-pair
invariant-loop-pair l = record {
  long : length l.out ≡ l.pair-index;
  is : (m : ℕ) → m < l.pair-index → nth l.out m ≡ far_at l.right m;
}
