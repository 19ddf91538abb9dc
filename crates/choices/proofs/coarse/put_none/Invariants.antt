use Rattle.std.proofs.Common.{◌≡◌, ◌<◌, ℕ, get_or, length}
use Rattle.choices.proofs.coarse.put_none.Given as goal

abbrev pub invariant-loop-i : goal.invariant-loop-i
invariant-loop-i l = record {
  places : length l.low ≡ length l.fn.low;
  none : (s : ℕ) → s < l.i → get_or l.low s 0 ≡ 0;
}
