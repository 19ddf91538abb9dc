-- The lines of the same turns are the same, and so is the point that they end with.
use Rattle.std.proofs.Common.{Bool, List, None, Option, Some, [], ap, arith, codes, cond, length, pos, refl, subst, suc, sym, zero, ℕ, ℤ, ◌*ℤ◌, ◌++◌}
use Rattle.std.proofs.Common.{◌+◌, ◌<◌, ◌∙◌, ◌∷◌, ◌≡◌, ◌≤ℤ◌, ◌≤◌}
use Rattle.std.specs.Fmt.{decimal}
use Rattle.std.proofs.Math.IntN.{*ℤ_comm}
use Rattle.auction_model.specs.Lawful.{IsMarket}
use Rattle.auction_model.specs.Lowered.{of_bidder}
use Rattle.auction_model.specs.Market.{Market}
use Rattle.auction_model.specs.Prices.{AreVickreyPrices, Point, SamePoint}
use Rattle.auction_model.specs.PricingRun.{BidderBlock, BidderTurn, IsPricingRun, single_rows}
use Rattle.line_format.specs.Decimals.{decimals_text}
use Rattle.print_grammar.specs.Turns.{ArePoints, IsTurnEnd, IsTurnLine, AreTurnLines}
use Rattle.core_laws.specs.Turns.{IsLastPoint}
use Rattle.core_laws.specs.Winners.{members_of}
use Rattle.print_grammar.proofs.AlikeBlocks.{IsSameEnd}
use Rattle.print_grammar.proofs.AlikePoints.{all-own}
use Rattle.print_grammar.proofs.FractionLaws.{one-text}
use Rattle.print_grammar.proofs.SameTurns.{IsSameTurn, AreSameTurns, same-turns}

same-members : (s t : ℕ → Bool) (n : ℕ) → ((j : ℕ) → 0 < j → j ≤ n → s j ≡ t j) → members_of s n ≡ members_of t n
same-members s t zero same = refl
same-members s t (suc n) same =
    let rest = same-members s t n (λ j some inside. same j some (omega arith)) in
    ap (λ (b : Bool). cond b (members_of s n ++ suc n ∷ []) (members_of s n)) (same (suc n) (omega arith) (omega arith))
    ∙ ap (λ (l : List ℕ). cond (t (suc n)) (l ++ suc n ∷ []) l) rest

module _ (m : Market) (z : List ℕ) (long : length z ≡ m.bidders) where
  same-points : (p q : Point) → pos 1 ≤ℤ p.den → pos 1 ≤ℤ q.den → SamePoint m p q → (k : ℕ) (c t u : List ℕ) → k + length c ≡ m.bidders → ArePoints p k c t
      → ArePoints q k c u → t ≡ u
  same-points p q dp dq same k [] t u few these those = these ∙ sym those
  same-points p q dp dq same k (zero ∷ c) t u few these those = same-points p q dp dq same (suc k) c t u (omega arith) these those
  same-points p q dp dq same k (suc i ∷ c) t u few these those =
      let own : of_bidder p.at (suc k) *ℤ q.den ≡ of_bidder q.at (suc k) *ℤ p.den =
      *ℤ_comm (of_bidder p.at (suc k)) q.den ∙ same (suc k) (omega arith) (omega arith) ∙ *ℤ_comm p.den (of_bidder q.at (suc k)) in
      let price : these.0 ≡ those.0 = one-text _ p.den _ q.den these.0 those.0 dp dq own these.2 those.2 in
      let rest : these.1 ≡ those.1 = same-points p q dp dq same (suc k) c these.1 those.1 (omega arith) these.3 those.3 in
      these.4 ∙ ap (λ (l : List ℕ). 32 ∷ l ++ these.1) price ∙ ap (λ (l : List ℕ). 32 ∷ those.0 ++ l) rest ∙ sym those.4

  same-end : (d e : ℤ) → pos 1 ≤ℤ d → pos 1 ≤ℤ e → (a b : Option BidderBlock) → IsSameEnd m d e a b → (t u : List ℕ) → IsTurnEnd (length z) d a t
      → IsTurnEnd (length z) e b u → t ≡ u
  same-end d e dp dq None None same t u these those = these ∙ sym those
  same-end d e dp dq None (Some c) same t u these those = absurd same
  same-end d e dp dq (Some b) None same t u these those = absurd same
  same-end d e dp dq (Some b) (Some c) same t u these those =
      let excess : these.0 ≡ those.0 = one-text b.excess d c.excess e these.0 those.0 dp dq same.excesses these.1 those.1 in
      let members : members_of b.row.members (length z) ≡ members_of c.row.members (length z) = same-members b.row.members c.row.members (length z)
      (λ j some inside. same.rows.members j some (omega arith)) in
      these.2
      ∙ ap (λ (l : List ℕ). codes " row" ++ decimals_text l ++ codes " choice" ++ decimals_text b.choice ++ codes " excess " ++ these.0 ++ codes "\n") members
      ∙ ap (λ (l : List ℕ). codes " row" ++ decimals_text (members_of c.row.members (length z)) ++ codes " choice" ++ decimals_text l ++ codes " excess "
      ++ these.0 ++ codes "\n") same.choices
      ∙ ap (λ (l : List ℕ). codes " row" ++ decimals_text (members_of c.row.members (length z)) ++ codes " choice" ++ decimals_text c.choice
      ++ codes " excess " ++ l ++ codes "\n") excess
      ∙ sym those.2

  -- the lines of the same turn are the same
  pub same-line : (number : ℕ) (turn other : BidderTurn) → IsSameTurn m turn other → (t u : List ℕ) → IsTurnLine z number turn t → IsTurnLine z number other u → t ≡ u
  same-line number turn other same t u these those =
      let points : these.0 ≡ those.0 = same-points turn.point other.point same.positive same.also_positive same.points 0 z these.0 those.0
      (omega arith) these.2 those.2 in
      let ends : these.1 ≡ those.1 = same-end turn.point.den other.point.den same.positive same.also_positive turn.block other.block same.ends these.1 those.1
      these.3 those.3 in
      these.4
      ∙ ap (λ (l : List ℕ). codes "round " ++ decimal number ++ codes " point" ++ l ++ these.1) points
      ∙ ap (λ (l : List ℕ). codes "round " ++ decimal number ++ codes " point" ++ those.0 ++ l) ends
      ∙ sym those.4

  same-lines : (k : ℕ) (turns others : List BidderTurn) → AreSameTurns m turns others → (t u : List ℕ) → AreTurnLines z k turns t → AreTurnLines z k others u → t ≡ u
  same-lines k [] [] same t u these those = these ∙ sym those
  same-lines k [] (other ∷ others) same t u these those = absurd same
  same-lines k (turn ∷ turns) [] same t u these those = absurd same
  same-lines k (turn ∷ turns) (other ∷ others) same t u these those =
      let line : these.0 ≡ those.0 = same-line (suc k) turn other same.0 these.0 those.0 these.2 those.2 in
      let rest : these.1 ≡ those.1 = same-lines (suc k) turns others same.1 these.1 those.1 these.3 those.3 in
      these.4 ∙ ap (λ (l : List ℕ). l ++ these.1) line ∙ ap (λ (l : List ℕ). those.0 ++ l) rest ∙ sym those.4

same-last : (m : Market) (turns others : List BidderTurn) → AreSameTurns m turns others → (p q : Point) → IsLastPoint turns p → IsLastPoint others q → SamePoint m p q
same-last m [] others same p q these those = absurd these
same-last m (turn ∷ turns) [] same p q these those = absurd same
same-last m (turn ∷ []) (other ∷ []) same p q these those = subst (λ x. SamePoint m x q) these (subst (SamePoint m turn.point) those same.0.points)
same-last m (turn ∷ []) (other ∷ o ∷ others) same p q these those = absurd same.1
same-last m (turn ∷ t ∷ turns) (other ∷ []) same p q these those = absurd same.1
same-last m (turn ∷ t ∷ turns) (other ∷ o ∷ others) same p q these those = same-last m (t ∷ turns) (o ∷ others) same.1 p q these those

-- the runs of one choice
module _ (m : Market) (law : IsMarket m) (w : ℕ → ℕ) (z : List ℕ) (v : ℕ → ℤ) (prices : AreVickreyPrices m z v) (runs others : List BidderTurn)
    (a : IsPricingRun m w z runs) (b : IsPricingRun m w z others) where
  -- they go through the same turns
  pub same-runs : AreSameTurns m runs others
  same-runs = same-turns m law w z v runs others (single_rows v 0 z) (single_rows v 0 z) (all-own m (single_rows v 0 z)) (a.turns_of v prices)
      (b.turns_of v prices)

  -- they have the same lines
  pub same-text : (t u : List ℕ) → AreTurnLines z 0 runs t → AreTurnLines z 0 others u → t ≡ u
  same-text = same-lines m z (law.lengths z a.winning.passed) 0 runs others same-runs

  -- they end with the same point
  pub same-end_point : (p q : Point) → IsLastPoint runs p → IsLastPoint others q → SamePoint m p q
  same-end_point = same-last m runs others same-runs
