use Rattle.std.proofs.Common.{◌≡◌, ℕ, ◌<◌, ◌≤◌, get_or, map, pos, ◌+ℤ◌}
use Rattle.value_table.proofs.cell.U32Cell.add_to_each.Given as goal

abbrev pub invariant-loop-place : goal.invariant-loop-place
invariant-loop-place l = record {
  done : (s : ℕ) → s < l.place → get_or (map (λ n. pos n) l.line) s (pos 0) ≡ get_or (map (λ n. pos n) l.initial.line) s (pos 0) +ℤ pos l.amount;
  rest : (s : ℕ) → l.place ≤ s → get_or (map (λ n. pos n) l.line) s (pos 0) ≡ get_or (map (λ n. pos n) l.initial.line) s (pos 0);
}
