-- The payments of the core outcome of any market pass the test of payments.
use Rattle.std.specs.Prelude.{ℕ, List, ℤ}
use Rattle.auction_model.specs.Market.{Market}
use Rattle.auction_model.specs.Prices.{IsCorePoint}
use Rattle.cert_soundness.specs.MarketTests.{PaysWithinBids}
use Rattle.choices.specs.declared.chooser.Single.{Single}
use Rattle.core_price.specs.Turns.{point_of}
use Rattle.core_price.specs.declared.priced.PricedRow.{PricedRow}
use Rattle.book_price.specs.Made.{cert_made}

-- at a core point a winner pays at least 0 and no more than it bids, and a loser nothing
pub kept_payments : (m : Market) (z : List ℕ) (value : ℤ) (table : List (List ℤ)) (singles : List Single) (tables : List (List (List ℤ))) (den : ℤ)
    (at : List ℤ) (rows : List PricedRow) (lowered : List (List ℤ))
    → IsCorePoint m z (point_of z den at) → (place : ℕ) → PaysWithinBids m (cert_made z value table singles tables den at rows lowered) place
kept_payments m z value table singles tables den at rows lowered core place = record {
  winner = λ some inside used. core.winners place some inside used;
  loser = λ some inside loses. core.losers place some inside loses;
}
