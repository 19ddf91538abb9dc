-- The lines of a turn's table as whole numbers.
use Rattle.std.specs.Prelude.{List, ℤ, pos, map}
use Rattle.value_table.specs.declared.turn_lines.TurnLines.{TurnLines}
use Rattle.value_table.specs.declared.turn_lines.TurnLines.TheVariants.{Short, Narrow, Wide}

abbrev pub lines_in : TurnLines → List (List ℤ)
lines_in (Short lines) = map (λ l. map (λ n. pos n) l.items) lines.items
lines_in (Narrow lines) = map (λ l. map (λ z. z) l.items) lines.items
lines_in (Wide lines) = map (λ l. map (λ z. z) l.items) lines.items
