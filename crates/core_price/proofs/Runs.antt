-- Turns that go on from rows of bits, as turns of a market.
use Rattle.std.specs.Prelude.{◌≡◌, ℕ, zero, suc, ◌<◌, List, [], ◌∷◌, length, map, ℤ}
use Rattle.std.specs.List.{AllByRecursion}
use Rattle.std.proofs.Common.{sym, arith, subst}
use Rattle.std.proofs.lemmas.Int.{ints}
use Rattle.auction_model.specs.Market.{Market}
use Rattle.auction_model.specs.Lowered.{of_bidder}
use Rattle.auction_model.specs.Prices.{Point, weight_of}
use Rattle.auction_model.specs.PricingRun.{IsTurnPoint, MeetsBidderRows, MeetsRow}
use Rattle.far_num.specs.declared.Row.{Row}
use Rattle.nearest_point.specs.Problem.{row_at}
use Rattle.nearest_point.specs.Shown.{IsShownNearest}
use Rattle.core_laws.specs.Rows.{Meets, row_in}
use Rattle.core_laws.specs.Surplus.{AsksWinnersOnly}
use Rattle.core_laws.specs.Winners.{for_bidders, for_winners, winners_in}
use Rattle.core_laws.proofs.Blocks.{meets-bidders, meets-winners}
use Rattle.core_price.specs.Turns.{point_of}
use Rattle.core_laws.specs.Weights.{CanWeigh, weights_in}
use Rattle.core_price.proofs.Points.{MeetsBits, asks-winners, back-of, least-of, meets, nearest-of}

-- what each row of bits asks, as a list of rows of bidders
each-from :
    (m : Market) (z : List ℕ) → length z ≡ m.bidders → (den : ℤ) (at : List ℤ) (rows : List Row)
    → ((i : ℕ) → i < length rows → Meets z (row_at rows i) den at) → AllByRecursion (MeetsRow m (point_of z den at)) (map (row_in z) rows)
each-from m z len den at [] h = tt
each-from m z len den at (row ∷ rows) h = (
  meets-bidders m z len den at row (h 0 (omega arith)),
  each-from m z len den at rows
      (λ i lt. h (suc i) (omega arith)),
)

each-to :
    (m : Market) (z : List ℕ) → length z ≡ m.bidders → (den : ℤ) (at : List ℤ) (rows : List Row)
    → AllByRecursion (MeetsRow m (point_of z den at)) (map (row_in z) rows) → (i : ℕ) → i < length rows → Meets z (row_at rows i) den at
each-to m z len den at [] h i lt = absurd (omega arith)
each-to m z len den at (row ∷ rows) h zero lt = meets-winners m z len den at row h.0
each-to m z len den at (row ∷ rows) h (suc i) lt = each-to m z len den at rows h.1 i (omega arith)

module _ (m : Market) (z : List ℕ) (len : length z ≡ m.bidders) (rows : List Row) where
  -- a point that meets the rows of bidders meets those of bits
  pub bits-met : (q : Point) → MeetsBidderRows m z (map (row_in z) rows) q → MeetsBits m z rows q
  bits-met q h =
      let asks : AsksWinnersOnly m z q = record { bidders = h.bidders; losers = h.losers } in
      let back = back-of m z len q asks in
      record {
        positive = h.den_positive;
        asks = asks;
        above = each-to m z len q.den (for_winners z q.at) rows (subst (λ l. AllByRecursion (MeetsRow m (record { den = q.den; at = l }))
            (map (row_in z) rows)) (sym back) h.each);
      }

  module _ (weights : List ℕ) (weighed : CanWeigh m z weights) (prices : List ℤ) (some : length prices ≡ winners_in z) (den : ℤ) (at first second : List ℤ)
      (answer : IsShownNearest prices (weights_in z weights) rows den at first second) where
    -- the answer of a turn is its point
    pub turn-point : (v : ℕ → ℤ) → ((k : ℕ) → k < m.bidders → v (suc k) ≡ of_bidder (for_bidders z prices) (suc k))
        → IsTurnPoint m (weight_of weights) z v (map (row_in z) rows) (point_of z den at)
    turn-point v priced =
        let own = meets m z len weights weighed prices some rows den at first second answer in
        let asks = asks-winners m z len den at in
        record {
          meets = record {
            den_positive = let p = own.positive in omega (arith, ints);
            bidders = asks.bidders;
            losers = asks.losers;
            each = each-from m z len den at rows own.above;
          };
          least = λ q h. least-of m z len weights weighed prices some rows den at first second answer q (bits-met q h);
          nearest = λ q h same other. nearest-of m z len weights weighed prices some rows den at first second answer v priced q (bits-met q h) same other;
        }
