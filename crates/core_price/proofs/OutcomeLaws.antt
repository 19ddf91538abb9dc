-- Where the turns end: the last point is the core outcome.
use Rattle.std.specs.Prelude.{◌≡◌, ℕ, suc, ◌^◌, ◌<◌, List, length, ℤ, pos, ◌+ℤ◌, ◌*ℤ◌, ◌≤ℤ◌, ◌<ℤ◌}
use Rattle.std.proofs.Common.{arith}
use Rattle.std.proofs.lemmas.Int.{ints}
use Rattle.auction_model.proofs.PriceLaws.{vickrey-one}
use Rattle.auction_model.specs.Market.{Market, value_of}
use Rattle.auction_model.specs.Greatest.{IsWinning}
use Rattle.auction_model.specs.Lawful.{IsMarket}
use Rattle.auction_model.specs.Lowered.{of_bidder}
use Rattle.auction_model.specs.Prices.{AreVickreyPrices, IsCoreOutcome, IsCorePoint, Point, weight_of}
use Rattle.auction_model.specs.PricingRun.{IsPricingRun}
use Rattle.far_num.specs.declared.Row.{Row}
use Rattle.nearest_point.specs.Problem.{row_at}
use Rattle.core_laws.specs.Winners.{for_bidders, winners_in}
use Rattle.core_laws.proofs.Blocks.{core-meets}
use Rattle.core_laws.proofs.Sizes.{worth-nonneg}
use Rattle.core_price.specs.SoFar.{CanTurn, HasEnded, choice_at}
use Rattle.core_price.specs.Turns.{point_of, turns_of}
use Rattle.core_price.specs.declared.priced.Turn.{Turn}
use Rattle.core_price.proofs.Core.{core-of}
use Rattle.core_price.proofs.LookLaws.{value-range}
use Rattle.core_price.proofs.Points.{MeetsBits, firsts, least-of, nearest-of, sums}

module _ (m : Market) (lawful : IsMarket m) (z : List ℕ) (win : IsWinning m z) (prices : List ℤ) (weights : List ℕ) (can : CanTurn m z prices weights)
    (rows : List Row) (choices : List (List ℕ)) (turns : List Turn) (den : ℤ) (at first second : List ℤ)
    (ended : HasEnded m z prices weights rows choices turns den at first second) where
  len : length z ≡ m.bidders
  len = lawful.lengths z win.passed

  den-positive : pos 1 ≤ℤ den
  den-positive = let p = ended.answer.meets.positive in omega (arith, ints)

  core-bits : (q : Point) → IsCorePoint m z q → MeetsBits m z rows q
  core-bits q core = record {
    positive = core.den_positive;
    asks = record { bidders = core.bidders; losers = core.losers };
    above = λ i lt. core-meets m lawful z len q core (row_at rows i) (choice_at choices i) (ended.given i lt);
  }

  -- the turns are a run of pricing
  pub run : IsPricingRun m (weight_of weights) z (turns_of z turns)
  run = record { winning = win; turns_of = ended.run }

  -- the last point is the core outcome by the weights
  pub outcome : IsCoreOutcome m (weight_of weights) z (point_of z den at)
  outcome = record {
    greatest = record { passed = win.passed; greatest = win.greatest };
    core = core-of m lawful z win rows choices ended.given den at first (firsts m z len weights can.weighing prices can.long rows den at first second
        ended.answer) (sums m z len weights can.weighing prices can.long rows den at first second ended.answer) ended.free den-positive ended.not_negative;
    least = λ q core. least-of m z len weights can.weighing prices can.long rows den at first second ended.answer q (core-bits q core);
    nearest = λ v ps q core same other. nearest-of m z len weights can.weighing prices can.long rows den at first second ended.answer v (priced v ps) q
        (core-bits q core) same other;
  }
    where
      priced : (v : ℕ → ℤ) → AreVickreyPrices m z v → (k : ℕ) → k < m.bidders → v (suc k) ≡ of_bidder (for_bidders z prices) (suc k)
      priced v ps k lt = vickrey-one m z (suc k) (v (suc k)) (of_bidder (for_bidders z prices) (suc k)) (ps (suc k) (omega arith) (omega arith))
          (can.vickrey (suc k) (omega arith) (omega arith))

  -- den times one more than the value is below 2^120
  pub range : (den *ℤ (value_of m z +ℤ pos 1)) <ℤ pos (2 ^ 120)
  range = value-range den (value_of m z) (winners_in z) den-positive ended.answer.small_den (worth-nonneg m lawful z win.passed) can.worth can.few.0
