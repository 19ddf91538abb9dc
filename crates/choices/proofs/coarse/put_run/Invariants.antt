use Rattle.std.proofs.Common.{◌≡◌, ◌≤◌, ◌<◌, ◌-◌, ◌^◌, ℕ, get_or, length}
use Rattle.choices.proofs.coarse.put_run.Given as goal

abbrev pub invariant-loop-i : goal.invariant-loop-i
invariant-loop-i l = record {
  places : length l.mask ≡ length l.fn.mask;
  run : (n : ℕ) → l.from ≤ n → n < l.i → get_or l.mask n 0 ≡ 2 ^ 16 - 1;
}
