-- Sets of rows that are tried.
use Rattle.far_num.specs.declared.Row.{Row}
use Rattle.nearest_point.specs.Found.{IsRight}
use Rattle.nearest_point.specs.declared.guess.Step.{Step}
use Rattle.nearest_point.specs.declared.guess.Step.TheVariants.{Right, Next}
use Rattle.std.specs.Prelude.{List, ℕ, ℤ}

-- of a set that leads to a point, the point is right for all rows
abbrev pub IsStep : List ℤ → List ℕ → List Row → Step → Type 0
IsStep target weights rows (Right h) = IsRight target weights rows h
IsStep target weights rows (Next places) = Unit {0}
