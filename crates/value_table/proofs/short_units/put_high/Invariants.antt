use Rattle.std.proofs.Common.{◌≡◌, ◌≤◌, ◌<◌, ◌*◌, ◌^◌, ℕ, get_or, length}
use Rattle.value_table.proofs.short_units.put_high.Given as goal

abbrev pub invariant-loop-i : goal.invariant-loop-i
invariant-loop-i l = record {
  places : length l.high ≡ length l.line;
  above : (s : ℕ) → s < l.i → get_or l.line s 0 ≤ get_or l.high s 0 * 2 ^ l.shift;
  short : (s : ℕ) → s < l.i → get_or l.high s 0 ≤ 2 ^ 15;
}
