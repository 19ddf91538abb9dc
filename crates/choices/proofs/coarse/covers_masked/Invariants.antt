use Rattle.std.proofs.Common.{◌≡◌, ◌≤◌, ◌<◌, ◌+◌, ◌-◌, ◌^◌, ℕ, get_or}
use Rattle.choices.proofs.coarse.covers_masked.Given as goal

abbrev pub invariant-loop-i : goal.invariant-loop-i
invariant-loop-i l = l.over ≡ 0 → (s : ℕ) → s < l.i → get_or l.mask s 0 ≡ 2 ^ 16 - 1 → get_or l.high s 0 + l.worth ≤ get_or l.low s 0
