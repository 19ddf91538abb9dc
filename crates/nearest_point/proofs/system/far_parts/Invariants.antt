use Rattle.std.proofs.Common.{◌≡◌, ℕ, ◌<◌, length}
use Rattle.wide_num.specs.Sums.{nth}
use Rattle.far_num.specs.Pairs.{far_at}
use Rattle.nearest_point.proofs.system.far_parts.Given as goal

abbrev pub invariant-loop-pair : goal.invariant-loop-pair
invariant-loop-pair l = record {
  long : length l.out.items ≡ l.pair-index;
  parts : (i : ℕ) → i < l.pair-index → nth l.out.items i ≡ far_at l.pairs i;
}
