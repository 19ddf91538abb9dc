-- The numbers of a line of a grid.
use Rattle.std.specs.Prelude.{List, ℤ, pos, map}
use Rattle.std.specs.Rc.{rc_slice_items}
use Rattle.choices.specs.declared.grid_line.GridLine.{GridLine}
use Rattle.choices.specs.declared.grid_line.GridLine.TheVariants.{Short, Wide}

abbrev pub numbers_in : GridLine → List ℤ
numbers_in (Short numbers) = map (λ n. pos n) (rc_slice_items numbers)
numbers_in (Wide numbers) = rc_slice_items numbers
