-- What pricing promises: the prices, the turns that led to them, and the rows whose multipliers show that they are right.
use Rattle.std.specs.Prelude.{◌≡◌, ℕ, ◌^◌, ◌≤◌, List, eqb, length, map, ℤ, pos, ◌+ℤ◌, ◌*ℤ◌, ◌<ℤ◌}
use Rattle.std.specs.List.{AllByRecursion, IsDistinct}
use Rattle.auction_model.specs.Lowered.{of_bidder}
use Rattle.auction_model.specs.Market.{Market, value_of}
use Rattle.auction_model.specs.Prices.{AreVickreyPrices, IsCoreOutcome, weight_of}
use Rattle.auction_model.specs.PricingRun.{IsPricingRun}
use Rattle.blocking.specs.Look.{IsFound}
use Rattle.choices.specs.declared.chooser.Single.{Single}
use Rattle.nearest_point.specs.Numbers.{AreBelow}
use Rattle.nearest_point.specs.Problem.{bounds, coefficients, weight_at}
use Rattle.projection_laws.specs.Multipliers.{AreFirst, AreSecond, SumsTo}
use Rattle.core_laws.specs.Winners.{for_bidders, winners_in}
use Rattle.wide_num.specs.Sums.{nth}
use Rattle.core_price.specs.Kept.{AreAmong, IsKept, firsts, rows_in, seconds}
use Rattle.core_price.specs.Lowest.{IsLowest}
use Rattle.core_price.specs.Rows.{asked_choices, asked_rows, prices_of}
use Rattle.core_price.specs.Turns.{EndsWith, IsPointOfTurn, last_turn, point_of, turns_of}
use Rattle.core_laws.specs.Weights.{weights_in}
use Rattle.core_price.specs.declared.priced.Priced.{Priced}
use Rattle.core_price.specs.declared.priced.PricedRow.{PricedRow}
use Rattle.core_price.specs.declared.priced.Turn.{Turn}

-- a payment for each winner of z, in order: the core outcome by the weights
pub record ArePrices (m : Market) (z weights : List ℕ) (singles : List Single) (den : ℤ) (at : List ℤ) : Type 0 where
  pub outcome : IsCoreOutcome m (weight_of weights) z (point_of z den at)
  pub vickrey : AreVickreyPrices m z (of_bidder (for_bidders z (prices_of singles)))
  pub long : length at ≡ winners_in z
  pub small : AreBelow (2 ^ 109) at
  pub range : (den *ℤ (value_of m z +ℤ pos 1)) <ℤ pos (2 ^ 120)

-- the turns of pricing, which end with these payments; no two of all their rows have the same members
pub record AreTurnsTo (m : Market) (z weights : List ℕ) (singles : List Single) (turns : List Turn) (den : ℤ) (at : List ℤ) : Type 0 where
  pub run : IsPricingRun m (weight_of weights) z (turns_of z turns)
  pub few : length turns ≤ 2 ^ winners_in z
  pub each : AllByRecursion (IsPointOfTurn z weights) turns
  pub last : EndsWith turns (last_turn den at)
  pub distinct : IsDistinct eqb (map (λ r. r.members) (asked_rows singles turns))

-- Rows of the turns, at most one for each winner. These payments are tight on them. Their first multipliers show that the sum
-- is the least, the second that the point is the nearest. All is in lowest terms.
pub record AreShownBy (m : Market) (z weights : List ℕ) (singles : List Single) (turns : List Turn) (den : ℤ) (at : List ℤ) (rows : List PricedRow) : Type 0 where
  pub order : AreAmong (asked_rows singles turns) (asked_choices singles turns) rows
  pub few : length rows ≤ winners_in z
  pub kept : AllByRecursion (IsKept m z den at) rows
  pub first : AreFirst (winners_in z) (length rows) (coefficients (rows_in rows)) (bounds (rows_in rows)) den (nth at) (nth (firsts rows))
  pub first_sums : SumsTo (winners_in z) (length rows) (coefficients (rows_in rows)) den (nth (firsts rows))
  pub second : AreSecond (winners_in z) (length rows) (coefficients (rows_in rows)) (bounds (rows_in rows)) den (nth at)
      (nth (firsts rows)) (nth (seconds rows)) (nth (prices_of singles)) (weight_at (weights_in z weights))
  pub small_seconds : AreBelow (2 ^ 109) (seconds rows)
  pub lowest : IsLowest den at (firsts rows) (seconds rows)

-- the prices of the winning choice z by the weights, with all that shows that they are right
pub record IsPriced {T : Type 0} (m : Market) (z weights : List ℕ) (singles : List Single) (p : Priced T) : Type 0 where
  pub prices : ArePrices m z weights singles p.den p.at
  pub turns : AreTurnsTo m z weights singles p.turns p.den p.at
  pub shown : AreShownBy m z weights singles p.turns p.den p.at p.rows
  -- the last search, where nothing blocks
  pub last : IsFound m z p.den (for_bidders z p.at) p.last.choice p.last.sum
