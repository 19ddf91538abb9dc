use Rattle.std.proofs.Common.{◌<◌, ◌*◌, ℕ, drop, take}
use Rattle.table_check.specs.Growth.{Grows}
use Rattle.table_check.proofs.growth.rows_grow.Given as goal

abbrev pub invariant-loop-row : goal.invariant-loop-row
invariant-loop-row l = (q : ℕ) → q < l.row → Grows (drop 1 l.supply) (take l.width (drop (q * l.width) l.line))
