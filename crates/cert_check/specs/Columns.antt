-- The multipliers of the rows, row by row, and their sums, bidder by bidder.
use Rattle.std.specs.Prelude.{◌≡◌, ℕ, ◌-◌, ◌<◌, ◌≤◌, List, length, ℤ}
use Rattle.auction_model.specs.Lowered.{of_bidder}
use Rattle.cert_grammar.specs.Certificate.{RowValue, row_of}
use Rattle.cert_soundness.specs.Tests.{sum_holding}
use Rattle.wide_num.specs.Sums.{nth}
use Rattle.cert_check.specs.Multipliers.{multiplier_of}
use Rattle.cert_check.specs.declared.sums.Multiplier.{Multiplier}
use Rattle.cert_check.specs.declared.sums.Multiplier.TheVariants.{First, Second}

-- these are the first, or the second, multipliers of the rows
pub record AreMultipliers (which : Multiplier) (rows : List RowValue) (numbers : List ℤ) : Type 0 where
  pub count : length rows ≡ length numbers
  pub each : (r : ℕ) → 0 < r → r ≤ length rows → nth numbers (r - 1) ≡ multiplier_of which (row_of rows r)

-- for each bidder the sum over the rows that contain it
abbrev pub AreSums : Multiplier → ℕ → List RowValue → List ℤ → Type 0
AreSums which bidders rows sums = (j : ℕ) → 0 < j → j ≤ bidders
    → of_bidder sums j ≡ sum_holding rows j (multiplier_of which) (length rows)

-- the first ones, and their sums
abbrev pub AreFirsts : List RowValue → List ℤ → Type 0
AreFirsts = AreMultipliers First

abbrev pub AreFirstSums : ℕ → List RowValue → List ℤ → Type 0
AreFirstSums = AreSums First

-- the second ones, and their sums
abbrev pub AreSeconds : List RowValue → List ℤ → Type 0
AreSeconds = AreMultipliers Second

abbrev pub AreSecondSums : ℕ → List RowValue → List ℤ → Type 0
AreSecondSums = AreSums Second
