use Rattle.std.proofs.Common.{ℕ, ◌≤◌, ◌-◌, ◌^◌, unsigned_abs}
use Rattle.value_table.specs.Counted.{counted}
use Rattle.value_table.proofs.short.has_short_worths.Given as goal

abbrev pub invariant-loop-i : goal.invariant-loop-i
invariant-loop-i l = (n : ℕ) → n ≤ l.i → unsigned_abs (counted l.lowered l.j n) ≤ 2 ^ 31 - 1
