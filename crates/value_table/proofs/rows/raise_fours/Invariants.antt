use Rattle.std.proofs.Common.{◌≡◌, ◌≤◌, ◌<◌, ◌+◌, ◌*◌, ℕ, max, get_or}
use Rattle.value_table.proofs.rows.raise_fours.Given as goal

abbrev pub invariant-loop-i : goal.invariant-loop-i
invariant-loop-i g l = record {
  before : (s : ℕ) → s < l.at → get_or l.line s 0 ≡ get_or l.initial.line s 0;
  raised : (s : ℕ) → l.at ≤ s → s < l.at + 4 * l.i → get_or l.line s 0 ≡ max (get_or l.initial.line s 0) (l.worth + get_or l.below s 0);
  behind : (s : ℕ) → l.at + 4 * l.i ≤ s → get_or l.line s 0 ≡ get_or l.initial.line s 0;
}
