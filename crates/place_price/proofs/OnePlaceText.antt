-- A placement has one text.
use Rattle.std.proofs.Common.{◌≡◌, ◌∙◌, ℕ, zero, suc, ◌+◌, ◌<◌, ◌≤◌, List, [], ◌∷◌, ◌++◌, length, codes, ℤ, pos, ◌*ℤ◌, ◌≤ℤ◌, sym, ap, arith}
use Rattle.std.proofs.Math.IntN.{*ℤ_comm}
use Rattle.auction_model.specs.Lowered.{of_bidder}
use Rattle.auction_model.specs.Market.{value_of}
use Rattle.auction_model.specs.Prices.{Point, SamePoint, everyone}
use Rattle.print_grammar.specs.Fractions.{IsFractionText}
use Rattle.print_grammar.proofs.Sums.{sums}
use Rattle.slot_places.specs.Board.{market_of_slots}
use Rattle.slot_places.specs.Slots.{SlotList, bid_of, bidder_of}
use Rattle.place_price.specs.PlaceText.{ArePricedLines, IsPlaceText, placed_lines, priced_line, value_line}

-- a fraction has one text
abbrev pub OneFraction : Type 0
OneFraction = (n d m e : ℤ) (t u : List ℕ) → pos 1 ≤ℤ d → pos 1 ≤ℤ e → n *ℤ e ≡ m *ℤ d → IsFractionText n d t → IsFractionText m e u → t ≡ u

module _ (one : OneFraction) (slots : SlotList) (v w : ℕ → ℤ) (p q : Point) (dp : pos 1 ≤ℤ p.den) (dq : pos 1 ≤ℤ q.den) (same : SamePoint (market_of_slots slots) p q)
    (agree : (j : ℕ) → 0 < j → j ≤ length slots.bidders → v j ≡ w j) where
  -- what a bidder pays is the same fraction
  own : (j : ℕ) → 0 < j → j ≤ length slots.bidders → of_bidder p.at j *ℤ q.den ≡ of_bidder q.at j *ℤ p.den
  own j some inside = *ℤ_comm (of_bidder p.at j) q.den ∙ same j some inside ∙ *ℤ_comm p.den (of_bidder q.at j)

  -- the line of a winner, after which stand the same lines
  same-line : (k i : ℕ) (pays pays' rest rest' : List ℕ) → suc k ≤ length slots.bidders → pays ≡ pays' → rest ≡ rest'
      → priced_line (bidder_of slots (suc k)).name (bid_of slots (suc k) (suc i)) (v (suc k)) pays ++ rest ≡ priced_line (bidder_of slots (suc k)).name
      (bid_of slots (suc k) (suc i)) (w (suc k)) pays' ++ rest'
  same-line k i pays pays' rest rest' inside e f =
      ap (λ (x : ℤ). priced_line (bidder_of slots (suc k)).name (bid_of slots (suc k) (suc i)) x pays ++ rest) (agree (suc k) (omega arith) inside)
      ∙ ap (λ (l : List ℕ). priced_line (bidder_of slots (suc k)).name (bid_of slots (suc k) (suc i)) (w (suc k)) l ++ rest) e
      ∙ ap (λ (l : List ℕ). priced_line (bidder_of slots (suc k)).name (bid_of slots (suc k) (suc i)) (w (suc k)) pays' ++ l) f

  -- the lines of the winners after some bidders
  same-lines : (k : ℕ) (c t u : List ℕ) → k + length c ≡ length slots.bidders → ArePricedLines slots v p k c t → ArePricedLines slots w q k c u → t ≡ u
  same-lines k [] t u long these those = these ∙ sym those
  same-lines k (zero ∷ c) t u long these those = same-lines (suc k) c t u (omega (arith, long)) these those
  same-lines k (suc i ∷ c) t u long these those =
      let inside : suc k ≤ length slots.bidders = omega (arith, long) in
      let pays : these.0 ≡ those.0 = one _ p.den _ q.den these.0 those.0 dp dq (own (suc k) (omega arith) inside) these.2 those.2 in
      let rest : these.1 ≡ those.1 = same-lines (suc k) c these.1 those.1 (omega (arith, long)) these.3 those.3 in
      these.4 ∙ same-line k i these.0 those.0 these.1 those.1 inside pays rest ∙ sym those.4

  -- for the same fractions and Vickrey prices, one order and one choice have one text
  pub one-place : (order z t u : List ℕ) → length z ≡ length slots.bidders → IsPlaceText slots order z v p t → IsPlaceText slots order z w q u → t ≡ u
  one-place order z t u long x y =
      let lines : x.lines ≡ y.lines = same-lines 0 z x.lines y.lines (omega (arith, long)) x.are_lines y.are_lines in
      let all = sums everyone (of_bidder p.at) (of_bidder q.at) q.den p.den (length slots.bidders) own in
      let revenue : x.revenue ≡ y.revenue = one _ p.den _ q.den x.revenue y.revenue dp dq all x.is_revenue y.is_revenue in
      x.whole
      ∙ ap (λ (l : List ℕ). placed_lines slots 1 order ++ l ++ value_line (value_of (market_of_slots slots) z) ++ codes "revenue " ++ x.revenue ++ codes "\n") lines
      ∙ ap (λ (l : List ℕ). placed_lines slots 1 order ++ y.lines ++ value_line (value_of (market_of_slots slots) z) ++ codes "revenue " ++ l ++ codes "\n") revenue
      ∙ sym y.whole
