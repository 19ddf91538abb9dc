-- The sums of the multipliers of rows, bidder by bidder.
use Rattle.std.specs.Prelude.{◌≡◌, ℕ, ◌*◌, ◌^◌, ◌<◌, ◌≤◌, List, ℤ, unsigned_abs}
use Rattle.auction_model.specs.Lowered.{of_bidder}
use Rattle.cert_grammar.specs.Certificate.{RowValue}
use Rattle.cert_soundness.specs.MarketTests.{sum_holding}
use Rattle.limits.specs.declared.TheConstants.{MOST_PLACED}
use Rattle.wide_num.specs.Sums.{nth}
use Rattle.placement_check.specs.declared.sums.RowSums.{RowSums}

-- for each bidder the sum of a number over those of the first n rows that contain
-- it
pub record AreSumsOf (number : RowValue → ℤ) (rows : List RowValue) (n : ℕ) (sums : List ℤ) : Type 0 where
  pub each : (j : ℕ) → 0 < j → j ≤ MOST_PLACED → of_bidder sums j ≡ sum_holding rows j number n
  pub small : (k : ℕ) → unsigned_abs (nth sums k) ≤ n * 2 ^ 120

-- these sums for both multipliers
pub record AreRowSums (rows : List RowValue) (n : ℕ) (sums : RowSums) : Type 0 where
  pub firsts : AreSumsOf (λ row. row.first) rows n sums.firsts
  pub seconds : AreSumsOf (λ row. row.second) rows n sums.seconds
