-- The numbers of a line that a grid lends.
use Rattle.std.specs.Prelude.{List, ℤ, pos, map}
use Rattle.choices.specs.declared.grid_line.LineNumbers.{LineNumbers}
use Rattle.choices.specs.declared.grid_line.LineNumbers.TheVariants.{Short, Wide}

abbrev pub numbers_of : LineNumbers → List ℤ
numbers_of (Short numbers) = map (λ n. pos n) numbers.now
numbers_of (Wide numbers) = numbers.now
