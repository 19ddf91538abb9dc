use Rattle.std.proofs.Common.{◌≡◌, ℕ, ◌<◌, get_or, map, pos}
use Rattle.value_table.proofs.widths.widen_into.Given as goal

abbrev pub invariant-loop-i : goal.invariant-loop-i
invariant-loop-i g l = (s : ℕ) → s < l.i → get_or l.numbers s (pos 0) ≡ get_or (map g.C.Cell.number l.line) s (pos 0)
