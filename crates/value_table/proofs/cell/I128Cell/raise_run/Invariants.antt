use Rattle.std.proofs.Common.{◌≡◌, ℕ, ◌<◌, ◌≤◌, get_or, pos, ◌+ℤ◌}
use Rattle.std.specs.Int.{int_max}
use Rattle.value_table.proofs.cell.I128Cell.raise_run.Given as goal

abbrev pub invariant-loop-i : goal.invariant-loop-i
invariant-loop-i l = record {
  done : (s : ℕ) → s < l.i → get_or l.line s (pos 0) ≡ int_max (get_or l.initial.line s (pos 0)) (l.worth +ℤ get_or l.below s (pos 0));
  rest : (s : ℕ) → l.i ≤ s → get_or l.line s (pos 0) ≡ get_or l.initial.line s (pos 0);
}
