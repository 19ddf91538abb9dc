-- What the turns of pricing know: their conditions, the rows so far, and where they end.
use Rattle.std.specs.Prelude.{◌≡◌, ℕ, ◌+◌, ◌*◌, ◌^◌, ◌<◌, ◌≤◌, List, [], ◌++◌, eqb, length, map, slice_index_or, ℤ, pos, ◌≤ℤ◌}
use Rattle.std.specs.List.{AllByRecursion, IsDistinct}
use Rattle.auction_model.specs.Lowered.{of_bidder}
use Rattle.auction_model.specs.Market.{Market, value_of}
use Rattle.auction_model.specs.Prices.{AreVickreyPrices, IsUnblocked, weight_of}
use Rattle.auction_model.specs.PricingRun.{BidderTurn, GoOn, single_rows}
use Rattle.far_num.specs.declared.Row.{Row}
use Rattle.limits.specs.declared.TheConstants.{MOST_AMOUNT}
use Rattle.nearest_point.specs.Problem.{AreBounds, AreTargets, HasSingles, bounds, row_at}
use Rattle.nearest_point.specs.Shown.{IsShownNearest}
use Rattle.core_laws.specs.Rows.{IsGivenBy, row_in}
use Rattle.core_laws.specs.Winners.{for_bidders, winners_in}
use Rattle.wide_num.specs.Sums.{nth, total}
use Rattle.core_price.specs.Lowest.{IsLowest}
use Rattle.core_price.specs.Turns.{EndsWith, IsPointOfTurn, last_turn, point_of, turns_of}
use Rattle.core_laws.specs.Weights.{CanWeigh, FewWin, weights_in}
use Rattle.core_price.specs.declared.priced.Turn.{Turn}

-- the conditions of the turns: few bidders and winners, a weight for each bidder, small worths, and the Vickrey prices of the
-- winners in order, whose sum isn't above the value
pub record CanTurn (m : Market) (z : List ℕ) (prices : List ℤ) (weights : List ℕ) : Type 0 where
  pub members : m.bidders ≤ 64
  pub few : FewWin z weights
  pub weighing : CanWeigh m z weights
  pub worth : value_of m z ≤ℤ pos (winners_in z * MOST_AMOUNT)
  pub long : length prices ≡ winners_in z
  pub vickrey : AreVickreyPrices m z (of_bidder (for_bidders z prices))
  pub targets : AreTargets prices
  pub sum : total (length prices) (nth prices) ≤ℤ value_of m z

-- the choice of the row at a place
abbrev pub choice_at : List (List ℕ) → ℕ → List ℕ
choice_at choices i = slice_index_or choices i []

-- the rows when a turn begins, and that turns which go on from them make a run
pub record IsSoFar (m : Market) (z weights : List ℕ) (rows : List Row) (choices : List (List ℕ)) (past : List Turn) : Type 0 where
  pub count : length rows ≡ winners_in z + length past
  pub long : length choices ≡ length rows
  pub given : (i : ℕ) → i < length rows → IsGivenBy m z (row_at rows i) (choice_at choices i)
  pub distinct : IsDistinct eqb (map (λ r. r.members) rows)
  pub row_bounds : AreBounds rows
  pub below_value : (i : ℕ) → i < length rows → bounds rows i ≤ℤ value_of m z
  pub singles : HasSingles (winners_in z) rows
  pub each : AllByRecursion (IsPointOfTurn z weights) past
  pub run : (v : ℕ → ℤ) → AreVickreyPrices m z v → (rest : List BidderTurn)
      → GoOn m (weight_of weights) z v (map (row_in z) rows) rest
      → GoOn m (weight_of weights) z v (single_rows v 0 z) (turns_of z past ++ rest)

-- the last point, which no coalition blocks, with its rows and all turns
pub record HasEnded (m : Market) (z : List ℕ) (prices : List ℤ) (weights : List ℕ) (rows : List Row) (choices : List (List ℕ)) (turns : List Turn) (den : ℤ) (at first second : List ℤ) : Type 0 where
  pub long : length choices ≡ length rows
  pub given : (i : ℕ) → i < length rows → IsGivenBy m z (row_at rows i) (choice_at choices i)
  pub distinct : IsDistinct eqb (map (λ r. r.members) rows)
  pub answer : IsShownNearest prices (weights_in z weights) rows den at first second
  pub not_negative : (i : ℕ) → i < winners_in z → pos 0 ≤ℤ nth at i
  pub lowest : IsLowest den at first second
  pub each : AllByRecursion (IsPointOfTurn z weights) turns
  pub few_turns : length turns ≤ 2 ^ winners_in z
  pub last : EndsWith turns (last_turn den at)
  pub free : IsUnblocked m z (point_of z den at)
  pub run : (v : ℕ → ℤ) → AreVickreyPrices m z v → GoOn m (weight_of weights) z v (single_rows v 0 z) (turns_of z turns)
