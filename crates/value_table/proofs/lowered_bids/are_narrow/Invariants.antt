use Rattle.std.proofs.Common.{ℕ, ◌<◌, ◌≤◌, ◌^◌, get_or, pos, unsigned_abs}
use Rattle.value_table.proofs.lowered_bids.are_narrow.Given as goal

abbrev pub invariant-loop-i : goal.invariant-loop-i
invariant-loop-i l = (k : ℕ) → k < l.i → unsigned_abs (get_or l.numbers k (pos 0)) ≤ 2 ^ 56
