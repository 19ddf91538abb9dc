-- A pricing run with one weight of 1 for each bidder is one in which all weigh 1, and so are its second multipliers.
use Rattle.std.specs.Prelude.{◌≡◌, ℕ, ◌≤◌, ◌<◌, Option, MatchOption, List, [], ◌∷◌, ◌++◌, length, replicate, ℤ, pos, ◌*ℤ◌}
use Rattle.std.specs.declared.option.Option.TheVariants.{Some, None}
use Rattle.std.proofs.Common.{◌∙◌, ap}
use Rattle.auction_model.specs.Blocks.{IsGreatestExcess}
use Rattle.auction_model.specs.Market.{Market}
use Rattle.auction_model.specs.Prices.{Point, alike, weight_of}
use Rattle.auction_model.specs.PricingRun.{BidderBlock, BidderRow, BidderTurn, GoOn, IsBlockOf, IsPricingRun, IsTurnPoint, MeetsBidderRows}
use Rattle.auction_model.specs.PricingRun.{single_rows}
use Rattle.auction_model.proofs.WeightLaws.{nearest-same}
use Rattle.book_price.proofs.Ones.{one-at}
use Rattle.cert_grammar.specs.Certificate.{CertValue}
use Rattle.cert_soundness.specs.MarketTests.{ShowsNearest, sum_holding}

module _ (m : Market) (w y : ℕ → ℕ) (same : (j : ℕ) → 0 < j → j ≤ m.bidders → w j ≡ y j) (z : List ℕ) (v : ℕ → ℤ) where
  point-same : (rows : List BidderRow) (p : Point) → IsTurnPoint m w z v rows p → IsTurnPoint m y z v rows p
  point-same rows p is = record { meets = is.meets; least = is.least; nearest = nearest-same m w y same v (MeetsBidderRows m z rows) p is.nearest }

  -- the next turn, by its block
  next-same : (rows : List BidderRow) (turns : List BidderTurn) (p : Point) (block : Option BidderBlock) → ((more : List BidderRow) → GoOn m w z v more turns → GoOn m y z v more turns)
      → MatchOption block ((turns ≡ []) × IsGreatestExcess m z p (pos 0)) (λ b. IsBlockOf m z p b × GoOn m w z v (rows ++ b.row ∷ []) turns)
      → MatchOption block ((turns ≡ []) × IsGreatestExcess m z p (pos 0)) (λ b. IsBlockOf m z p b × GoOn m y z v (rows ++ b.row ∷ []) turns)
  next-same rows turns p None on h = h
  next-same rows turns p (Some b) on h = (h.0, on (rows ++ b.row ∷ []) h.1)

  turns-same : (rows : List BidderRow) (turns : List BidderTurn) → GoOn m w z v rows turns → GoOn m y z v rows turns
  turns-same rows [] h = h
  turns-same rows (t ∷ turns) h = (point-same rows t.point h.0, next-same rows turns t.point t.block (λ more. turns-same more turns) h.1)

-- a pricing run with a weight of 1 for each bidder is one in which all weigh 1
pub run-alike : (m : Market) (z : List ℕ) (turns : List BidderTurn) → IsPricingRun m (weight_of (replicate m.bidders 1)) z turns → IsPricingRun m alike z turns
run-alike m z turns run = record {
  winning = run.winning;
  turns_of = λ v prices. turns-same m (weight_of (replicate m.bidders 1)) alike (one-at m.bidders) z v (single_rows v 0 z) turns (run.turns_of v prices);
}

-- what P8 asks with a weight of 1 for each bidder, it asks where all weigh 1
pub nearest-alike : (m : Market) (c : CertValue) (place : ℕ) → ShowsNearest m (weight_of (replicate m.bidders 1)) c place → ShowsNearest m alike c place
nearest-alike m c place h = record {
  sign = h.sign;
  columns = λ j some inside is wins. h.columns j some inside is wins ∙ ap (λ (n : ℕ). pos n *ℤ sum_holding c.rows j (λ row. row.second) (length c.rows))
      (one-at m.bidders j some inside);
}
