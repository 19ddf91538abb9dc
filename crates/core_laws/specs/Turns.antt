-- Where a pricing run ends.
use Rattle.std.specs.Prelude.{◌≡◌, List, [], ◌∷◌}
use Rattle.auction_model.specs.Prices.{Point}
use Rattle.auction_model.specs.PricingRun.{BidderTurn}

-- p is the point of the last turn
abbrev pub IsLastPoint : List BidderTurn → Point → Type 0
IsLastPoint [] p = ⊥
IsLastPoint (t ∷ []) p = t.point ≡ p
IsLastPoint (t ∷ u ∷ turns) p = IsLastPoint (u ∷ turns) p
