-- The turns as turns of a market: points for all bidders, and rows as sets of bidders.
use Rattle.std.specs.Prelude.{◌≡◌, ℕ, ◌^◌, ◌<◌, List, [], ◌∷◌, ◌++◌, length, map, IfSome, ℤ, pos, ◌≤ℤ◌, ◌<ℤ◌}
use Rattle.std.specs.Option.{option_map}
use Rattle.std.specs.declared.option.Option.TheVariants.{None}
use Rattle.auction_model.specs.Prices.{Point}
use Rattle.auction_model.specs.PricingRun.{BidderTurn}
use Rattle.blocking.specs.Look.{block_of}
use Rattle.nearest_point.specs.Numbers.{AreBelow}
use Rattle.core_laws.specs.Winners.{for_bidders, winners_in}
use Rattle.wide_num.specs.Sums.{nth}
use Rattle.core_laws.specs.Weights.{WeighAlike}
use Rattle.core_price.specs.declared.priced.Turn.{Turn}

-- the payments of the winners, in order, as payments of all bidders
abbrev pub point_of : List ℕ → ℤ → List ℤ → Point
point_of z den at = record { den = den; at = for_bidders z at }

abbrev pub turn_of : List ℕ → Turn → BidderTurn
turn_of z t = record { point = point_of z t.den t.at; block = option_map (block_of z) t.block }

abbrev pub turns_of : List ℕ → List Turn → List BidderTurn
turns_of z turns = map (turn_of z) turns

-- the turn where no coalition blocks the point
abbrev pub last_turn : ℤ → List ℤ → Turn
last_turn den at = record { den = den; at = at; block = None }

-- the last of the turns is this one
abbrev pub EndsWith : List Turn → Turn → Type 0
EndsWith turns last = (past : List Turn) × (turns ≡ past ++ last ∷ [])

-- A payment for each winner, none below 0 and all small, over a small denominator, which is below 2^32 if all winners weigh 1.
-- The excess of a block isn't below 0, and is small too.
pub record IsPointOfTurn (z weights : List ℕ) (t : Turn) : Type 0 where
  pub den_positive : pos 1 ≤ℤ t.den
  pub den_small : t.den ≤ℤ pos (320 ^ 4)
  pub den_of_ones : WeighAlike z weights → t.den <ℤ pos (2 ^ 32)
  pub winners : length t.at ≡ winners_in z
  pub not_negative : (i : ℕ) → i < winners_in z → pos 0 ≤ℤ nth t.at i
  pub small : AreBelow (2 ^ 109) t.at
  pub excess : IfSome t.block (λ b. pos 0 ≤ℤ b.excess)
  pub small_excess : IfSome t.block (λ b. b.excess ≤ℤ pos (2 ^ 80))
