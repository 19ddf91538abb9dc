-- The text of prices depends on the points alone.
use Rattle.std.proofs.Common.{◌≡◌, ℕ, zero, suc, ◌+◌, ◌<◌, ◌≤◌, List, [], ◌∷◌, ◌++◌, length, ℤ, pos, ◌+ℤ◌, ◌*ℤ◌, ◌≤ℤ◌, codes, sym, ap, ◌∙◌, arith}
use Rattle.std.proofs.Math.IntN.{*ℤ_comm}
use Rattle.auction_model.specs.Book.{Book, bid_of, bidder_of, market_of}
use Rattle.auction_model.specs.Lowered.{of_bidder}
use Rattle.auction_model.specs.Market.{value_of}
use Rattle.auction_model.specs.Prices.{Point, SamePoint, everyone}
use Rattle.print_grammar.specs.WinText.{net_line}
use Rattle.wide_num.proofs.Ints.{lin, mul-add, swap_mul}
use Rattle.print_grammar.specs.Prices.{reserve_of, gross_of, priced_line, ArePricedLines, IsPriceText}
use Rattle.print_grammar.proofs.FractionLaws.{one-text}
use Rattle.print_grammar.proofs.Sums.{sums}

-- equal fractions with one more whole number are equal
more : (x y a b r : ℤ) → b *ℤ x ≡ a *ℤ y → (x +ℤ (a *ℤ r)) *ℤ b ≡ (y +ℤ (b *ℤ r)) *ℤ a
more x y a b r same = omega (arith, lin, same, *ℤ_comm (x +ℤ (a *ℤ r)) b, *ℤ_comm (y +ℤ (b *ℤ r)) a, mul-add b x (a *ℤ r), mul-add a y (b *ℤ r), swap_mul a b r)

module _ (book : Book) (z : List ℕ) (v w : ℕ → ℤ) (p q : Point) (dp : pos 1 ≤ℤ p.den) (dq : pos 1 ≤ℤ q.den) (same : SamePoint (market_of book) p q)
    (agree : (j : ℕ) → 0 < j → j ≤ (market_of book).bidders → v j ≡ w j) where
  -- at the same point each bidder pays the same fraction, gross
  pub same-gross : (j : ℕ) → 0 < j → j ≤ (market_of book).bidders → gross_of book z p j *ℤ q.den ≡ gross_of book z q j *ℤ p.den
  same-gross j some inside = more (of_bidder p.at j) (of_bidder q.at j) p.den q.den (reserve_of book j _) (same j some inside)

  same-line : (k i : ℕ) (pays pays' rest rest' : List ℕ) → suc k ≤ (market_of book).bidders → pays ≡ pays' → rest ≡ rest'
      → priced_line (bidder_of book (suc k)).name (bid_of book (suc k) (suc i)) (v (suc k) +ℤ reserve_of book (suc k) (suc i)) pays ++ rest
      ≡ priced_line (bidder_of book (suc k)).name (bid_of book (suc k) (suc i)) (w (suc k) +ℤ reserve_of book (suc k) (suc i)) pays' ++ rest'
  same-line k i pays pays' rest rest' inside e f =
      ap (λ (x : ℤ). priced_line (bidder_of book (suc k)).name (bid_of book (suc k) (suc i)) (x +ℤ reserve_of book (suc k) (suc i)) pays ++ rest)
      (agree (suc k) (omega arith) inside)
      ∙ ap (λ (l : List ℕ). priced_line (bidder_of book (suc k)).name (bid_of book (suc k) (suc i)) (w (suc k) +ℤ reserve_of book (suc k) (suc i)) l ++ rest) e
      ∙ ap (λ (l : List ℕ). priced_line (bidder_of book (suc k)).name (bid_of book (suc k) (suc i)) (w (suc k) +ℤ reserve_of book (suc k) (suc i)) pays' ++ l) f

  same-lines : (k : ℕ) (c t u : List ℕ) → k + length c ≡ (market_of book).bidders → ArePricedLines book z v p k c t → ArePricedLines book z w q k c u → t ≡ u
  same-lines k [] t u long these those = these ∙ sym those
  same-lines k (zero ∷ c) t u long these those = same-lines (suc k) c t u (omega arith) these those
  same-lines k (suc i ∷ c) t u long these those =
      let pays : these.0 ≡ those.0 = one-text _ p.den _ q.den these.0 those.0 dp dq (same-gross (suc k) (omega arith) (omega arith)) these.2 those.2 in
      let rest : these.1 ≡ those.1 = same-lines (suc k) c these.1 those.1 (omega arith) these.3 those.3 in
      these.4 ∙ same-line k i these.0 those.0 these.1 those.1 (omega arith) pays rest ∙ sym those.4

  -- at the same point, with the same Vickrey prices, the texts of prices are the same
  pub same-text : (t u : List ℕ) → length z ≡ (market_of book).bidders → IsPriceText book z v p t → IsPriceText book z w q u → t ≡ u
  same-text t u long these those =
      let lines : these.0 ≡ those.0 = same-lines 0 z these.0 those.0 (omega arith) these.2 those.2 in
      let all = sums everyone (gross_of book z p) (gross_of book z q) q.den p.den (market_of book).bidders same-gross in
      let revenue : these.1 ≡ those.1 = one-text _ p.den _ q.den these.1 those.1 dp dq all these.3 those.3 in
      these.4
      ∙ ap (λ (l : List ℕ). l ++ net_line (value_of (market_of book) z) ++ codes "revenue " ++ these.1 ++ codes "\n") lines
      ∙ ap (λ (l : List ℕ). those.0 ++ net_line (value_of (market_of book) z) ++ codes "revenue " ++ l ++ codes "\n") revenue
      ∙ sym those.4
