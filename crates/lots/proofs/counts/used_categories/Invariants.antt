use Rattle.std.proofs.Common.{◌≡◌, ℕ, ◌<◌, ◌≤◌, get_or}
use Rattle.lots.proofs.counts.used_categories.Given as goal

abbrev pub invariant-loop-i : goal.invariant-loop-i
invariant-loop-i l = record {
  some : 0 < l.used;
  most : l.used ≤ l.i;
  rest : (k : ℕ) → l.used ≤ k → k < l.i → get_or l.counts k 0 ≡ 0;
}
