use Rattle.std.proofs.Common.{◌≡◌, ℕ, ◌<◌, ◌≤◌, get_or, pos, ◌+ℤ◌}
use Rattle.value_table.proofs.cell.I128Cell.add_to_each.Given as goal

abbrev pub invariant-loop-place : goal.invariant-loop-place
invariant-loop-place l = record {
  done : (s : ℕ) → s < l.place → get_or l.line s (pos 0) ≡ get_or l.initial.line s (pos 0) +ℤ l.amount;
  rest : (s : ℕ) → l.place ≤ s → get_or l.line s (pos 0) ≡ get_or l.initial.line s (pos 0);
}
