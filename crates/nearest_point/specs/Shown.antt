-- What the search for the nearest point answers.
use Rattle.auction_model.specs.Ones.{AreOnes}
use Rattle.far_num.specs.declared.Row.{Row}
use Rattle.nearest_point.specs.Numbers.{AreBelow, pairs_used}
use Rattle.nearest_point.specs.Problem.{bounds, coefficients, weight_at}
use Rattle.projection_laws.specs.Multipliers.{AreFirst, AreSecond, SumsTo}
use Rattle.projection_laws.specs.Points.{MeetsRows}
use Rattle.wide_num.specs.Sums.{nth}
use Rattle.std.specs.Prelude.{List, length, pos, ℕ, ℤ, ◌<ℤ◌, ◌^◌, ◌≡◌, ◌≤ℤ◌, ◌≤◌}

-- A point that meets the rows, with multipliers that show its least sum and that it is nearest to the target by the weights. At most
-- as many rows as coordinates have a multiplier other than 0, and all numbers are small.
pub record IsShownNearest (target : List ℤ) (weights : List ℕ) (rows : List Row) (den : ℤ) (at first second : List ℤ) : Type 0 where
  pub long_at : length at ≡ length target
  pub long_first : length first ≡ length rows
  pub long_second : length second ≡ length rows
  pub meets : MeetsRows (length target) (length rows) (coefficients rows) (bounds rows) den (nth at)
  pub firsts : AreFirst (length target) (length rows) (coefficients rows) (bounds rows) den (nth at) (nth first)
  pub sums : SumsTo (length target) (length rows) (coefficients rows) den (nth first)
  pub seconds : AreSecond (length target) (length rows) (coefficients rows) (bounds rows) den (nth at) (nth first) (nth second) (nth target)
      (weight_at weights)
  pub few : pairs_used (length rows) (nth first) (nth second) ≤ length target
  pub small_den : den ≤ℤ pos (320 ^ 4)
  pub den_of_ones : AreOnes (length target) weights → den <ℤ pos (2 ^ 32)
  pub small_at : AreBelow (2 ^ 109) at
  pub small_first : AreBelow (2 ^ 109) first
  pub small_second : AreBelow (2 ^ 109) second
