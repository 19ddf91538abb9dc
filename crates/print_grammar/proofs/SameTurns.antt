-- Two pricing runs go through the same turns.
use Rattle.std.proofs.Common.{◌≡◌, ℕ, Option, Some, None, MatchOption, List, [], ◌∷◌, ◌++◌, ℤ, pos, ◌≤ℤ◌, sym, subst}
use Rattle.auction_model.specs.Blocks.{IsGreatestExcess}
use Rattle.auction_model.specs.Lawful.{IsMarket}
use Rattle.auction_model.specs.Market.{Market}
use Rattle.auction_model.specs.Prices.{Point, SamePoint}
use Rattle.auction_model.specs.PricingRun.{BidderBlock, BidderRow, BidderTurn, GoOn, IsBlockOf}
use Rattle.print_grammar.proofs.AlikeBlocks.{IsSameEnd, same-block, same-turned, free-both}
use Rattle.print_grammar.proofs.AlikePoints.{AreAlike, all-more, same-point}

-- the same point, and the same block or none
pub record IsSameTurn (m : Market) (turn other : BidderTurn) : Type 0 where
  pub positive : pos 1 ≤ℤ turn.point.den
  pub also_positive : pos 1 ≤ℤ other.point.den
  pub points : SamePoint m turn.point other.point
  pub ends : IsSameEnd m turn.point.den other.point.den turn.block other.block

-- turn by turn
abbrev pub AreSameTurns : Market → List BidderTurn → List BidderTurn → Type 0
AreSameTurns m [] [] = Unit {0}
AreSameTurns m [] (other ∷ others) = ⊥
AreSameTurns m (turn ∷ turns) [] = ⊥
AreSameTurns m (turn ∷ turns) (other ∷ others) = IsSameTurn m turn other × AreSameTurns m turns others

-- what follows the point of a turn
abbrev Follows : Market → (ℕ → ℕ) → List ℕ → (ℕ → ℤ) → List BidderRow → Point → List BidderTurn → Option BidderBlock → Type 0
Follows m w z v rows p turns block = MatchOption block ((turns ≡ []) × IsGreatestExcess m z p (pos 0))
    (λ b. IsBlockOf m z p b × GoOn m w z v (rows ++ b.row ∷ []) turns)

module _ (m : Market) (law : IsMarket m) (w : ℕ → ℕ) (z : List ℕ) (v : ℕ → ℤ) where
  -- one point more gives the same end, and the same turns after it if those of alike rows are
  module _ (p q : Point) (dp : pos 1 ≤ℤ p.den) (dq : pos 1 ≤ℤ q.den) (same : SamePoint m p q) (rows others : List BidderRow) (alike : AreAlike m rows others)
      (turns these : List BidderTurn)
      (next : (rows' others' : List BidderRow) → AreAlike m rows' others' → GoOn m w z v rows' turns → GoOn m w z v others' these → AreSameTurns m turns these) where
    follow : (a b : Option BidderBlock) → Follows m w z v rows p turns a → Follows m w z v others q these b → IsSameEnd m p.den q.den a b × AreSameTurns m turns these
    follow None None f g = (tt, ended turns these f.0 g.0)
      where
        ended : (ts us : List BidderTurn) → ts ≡ [] → us ≡ [] → AreSameTurns m ts us
        ended ts us e h = subst (λ l. AreSameTurns m l us) (sym e) (subst (AreSameTurns m []) (sym h) tt)
    follow None (Some c) f g = absurd (free-both m z p q dp dq same f.1 c g.0)
    follow (Some b) None f g = absurd (free-both m z q p dq dp (same-turned m p q same) g.1 b f.0)
    follow (Some b) (Some c) f g =
        let block = same-block m law z p q dp dq same b c f.0 g.0 in
        (block, next (rows ++ b.row ∷ []) (others ++ c.row ∷ []) (all-more m rows others b.row c.row alike block.rows) f.1 g.1)

  -- pricing goes on from alike rows through the same turns
  pub same-turns : (turns these : List BidderTurn) (rows others : List BidderRow) → AreAlike m rows others → GoOn m w z v rows turns → GoOn m w z v others these
      → AreSameTurns m turns these
  same-turns [] these rows others alike g h = absurd g
  same-turns (t ∷ turns) [] rows others alike g h = absurd h
  same-turns (t ∷ turns) (u ∷ these) rows others alike g h =
      let points = same-point m w z v rows others t.point u.point alike g.0 h.0 in
      let rest = follow t.point u.point g.0.meets.den_positive h.0.meets.den_positive points rows others alike turns these
      (same-turns turns these) t.block u.block g.1 h.1 in
      (record { positive = g.0.meets.den_positive; also_positive = h.0.meets.den_positive; points = points; ends = rest.0 }, rest.1)
