-- Payments of the winners that can be printed.
use Rattle.std.specs.Prelude.{◌≡◌, ℕ, ◌<◌, List, length, ℤ, pos, ◌≤ℤ◌}
use Rattle.core_laws.specs.Winners.{winners_in}
use Rattle.wide_num.specs.Range.{InRange}
use Rattle.wide_num.specs.Sums.{nth}

-- a payment for each winner of z, none below 0, over a denominator of the range
pub record ArePayments (z : List ℕ) (den : ℤ) (at : List ℤ) : Type 0 where
  pub den_positive : pos 1 ≤ℤ den
  pub den_range : InRange den
  pub winners : length at ≡ winners_in z
  pub not_negative : (i : ℕ) → i < winners_in z → pos 0 ≤ℤ nth at i
