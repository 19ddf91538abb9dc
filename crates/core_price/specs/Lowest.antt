-- Points over their least denominator.
use Rattle.std.specs.Prelude.{◌≡◌, ℕ, ◌<◌, List, length, ℤ, pos, ◌*ℤ◌, ◌<ℤ◌}
use Rattle.wide_num.specs.Range.{Divides}
use Rattle.wide_num.specs.Sums.{nth}
use Rattle.lin_solve.specs.Elimination.{AreQuotients}

-- the number divides each of the list
abbrev pub DividesAll : ℤ → List ℤ → Type 0
DividesAll d numbers = (i : ℕ) → i < length numbers → Divides d (nth numbers i)

-- the number divides the denominator, all payments and all multipliers
pub record DividesPoint (d den : ℤ) (at first second : List ℤ) : Type 0 where
  pub den_is : Divides d den
  pub at_is : DividesAll d at
  pub first_is : DividesAll d first
  pub second_is : DividesAll d second

-- nothing but 1 divides the denominator, all payments and all multipliers
abbrev pub IsLowest : ℤ → List ℤ → List ℤ → List ℤ → Type 0
IsLowest den at first second = (g : ℕ) → DividesPoint (pos g) den at first second → g ≡ 1

-- the second point, with its multipliers, is the first with each number times g
pub record IsMultiple (g den : ℤ) (at first second : List ℤ) (times_den : ℤ) (times_at times_first times_second : List ℤ) : Type 0 where
  pub positive : pos 0 <ℤ g
  pub den_is : g *ℤ den ≡ times_den
  pub at_is : AreQuotients g times_at at
  pub first_is : AreQuotients g times_first first
  pub second_is : AreQuotients g times_second second
