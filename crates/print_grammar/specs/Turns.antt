-- What is printed of a pricing run: a line for each turn.
use Rattle.std.specs.Prelude.{◌≡◌, ℕ, zero, suc, Option, Some, None, List, [], ◌∷◌, ◌++◌, length, codes, ℤ}
use Rattle.std.specs.Fmt.{decimal}
use Rattle.auction_model.specs.Lowered.{of_bidder}
use Rattle.auction_model.specs.Prices.{Point}
use Rattle.auction_model.specs.PricingRun.{BidderBlock, BidderTurn}
use Rattle.line_format.specs.Decimals.{decimals_text}
use Rattle.print_grammar.specs.Fractions.{IsFractionText}
use Rattle.core_laws.specs.Winners.{members_of}

-- the net prices of the winners after bidder k, each after one space
abbrev pub ArePoints : Point → ℕ → List ℕ → List ℕ → Type 0
ArePoints p k [] text = text ≡ []
ArePoints p k (zero ∷ c) text = ArePoints p (suc k) c text
ArePoints p k (suc i ∷ c) text =
    (price rest : List ℕ) × IsFractionText (of_bidder p.at (suc k)) p.den price × ArePoints p (suc k) c rest
    × (text ≡ 32 ∷ price ++ rest)

-- what follows the point: the block with its excess, or the end
abbrev pub IsTurnEnd : ℕ → ℤ → Option BidderBlock → List ℕ → Type 0
IsTurnEnd bidders den None text = text ≡ codes " end\n"
IsTurnEnd bidders den (Some b) text =
    (excess : List ℕ) × IsFractionText b.excess den excess
    × (text ≡ codes " row" ++ decimals_text (members_of b.row.members bidders) ++ codes " choice" ++ decimals_text b.choice ++ codes " excess " ++ excess ++ codes "\n")

-- the line of the turn of this number
abbrev pub IsTurnLine : List ℕ → ℕ → BidderTurn → List ℕ → Type 0
IsTurnLine z number t text =
    (points end : List ℕ) × ArePoints t.point 0 z points × IsTurnEnd (length z) t.point.den t.block end
    × (text ≡ codes "round " ++ decimal number ++ codes " point" ++ points ++ end)

-- the lines of these turns of pricing the winners of z, after that many others
abbrev pub AreTurnLines : List ℕ → ℕ → List BidderTurn → List ℕ → Type 0
AreTurnLines z before [] text = text ≡ []
AreTurnLines z before (t ∷ turns) text = (line rest : List ℕ) × IsTurnLine z (suc before) t line
    × AreTurnLines z (suc before) turns rest × (text ≡ line ++ rest)
