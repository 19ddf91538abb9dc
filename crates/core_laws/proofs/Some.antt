-- A block with an excess asks something of somebody.
use Rattle.std.specs.Prelude.{◌≡◌, ℕ, zero, suc, ◌<◌, ◌≤◌, Bool, true, false, List, ℤ, pos, ◌+ℤ◌, ◌-ℤ◌, ◌*ℤ◌, ◌≤ℤ◌, ◌<ℤ◌, IsTrue, refl}
use Rattle.std.proofs.Common.{sym, ◌∙◌, ap, arith, inl, inr, ◌⊎◌}
use Rattle.std.proofs.lemmas.Bool.{cases_Bool}
use Rattle.std.proofs.lemmas.Int.{ints}
use Rattle.auction_model.specs.Market.{Market, value_of, worth_in}
use Rattle.auction_model.specs.Greatest.{IsWinning}
use Rattle.auction_model.specs.Lawful.{IsMarket}
use Rattle.auction_model.specs.Lowered.{of_bidder}
use Rattle.auction_model.specs.Prices.{Point}
use Rattle.auction_model.specs.Blocks.{IsTakenBlock, row_bound}
use Rattle.wide_num.specs.Sums.{total}
use Rattle.wide_num.proofs.Ints.{mul-add}
use Rattle.wide_num.proofs.Sums.{total-zero}
use Rattle.projection_laws.proofs.Order.{mul_nonneg}
use Rattle.core_laws.proofs.Rows.{excess-bound, excess-same}
use Rattle.core_laws.proofs.Sums.{choice-is, over-is}

-- some number from 1 to n is in a set, or none is
some-or_none : (s : ℕ → Bool) (n : ℕ) → ((j : ℕ) × (0 < j) × (j ≤ n) × (s j ≡ true)) ⊎ ((j : ℕ) → 0 < j → j ≤ n → s j ≡ false)
some-or_none s zero = inr (λ j some inside. absurd (omega arith))
some-or_none s (suc n) = by (cases_Bool (s (suc n))) (some-or_none s n)
  where
    last : (s (suc n) ≡ false) → ((j : ℕ) → 0 < j → j ≤ n → s j ≡ false) → (j : ℕ) → 0 < j → j ≤ suc n → (j ≤ n) ⊎ (j ≡ suc n) → s j ≡ false
    last e none j some inside (inl below) = none j some below
    last e none j some inside (inr same) = ap s same ∙ e

    split : (j : ℕ) → j ≤ suc n → (j ≤ n) ⊎ (j ≡ suc n)
    split j inside = grind arith

    by : (s (suc n) ≡ true) ⊎ (s (suc n) ≡ false) → ((j : ℕ) × (0 < j) × (j ≤ n) × (s j ≡ true)) ⊎ ((j : ℕ) → 0 < j → j ≤ n → s j ≡ false)
        → ((j : ℕ) × (0 < j) × (j ≤ suc n) × (s j ≡ true)) ⊎ ((j : ℕ) → 0 < j → j ≤ suc n → s j ≡ false)
    by (inl e) rest = inl (suc n, omega arith, omega arith, e)
    by (inr e) (inl r) = inl (r.0, r.1, omega (arith, r.2), r.3)
    by (inr e) (inr none) = inr (λ j some inside. last e none j some inside (split j inside))

module _ (m : Market) (lawful : IsMarket m) (z : List ℕ) (win : IsWinning m z) (p : Point) (dp : pos 1 ≤ℤ p.den) (f : List ℕ) (s : ℕ → Bool) (excess : ℤ)
    (taken : IsTakenBlock m z p f s excess) where
  -- a set with no member has no excess
  empty-low : ((j : ℕ) → 0 < j → j ≤ m.bidders → s j ≡ false) → excess ≤ℤ pos 0
  empty-low none =
      let r = taken.reached in
      let e = excess-same m z p s (λ j. false) f none in
      let x = excess-bound m z p (λ j. false) f in
      let y = over-is (λ j. false) (of_bidder p.at) m.bidders in
      let w = total-zero m.bidders (λ k. pos 0) (λ k lt. refl) in
      let v = win.greatest f taken.allowed in
      let u = over-is (λ j. true) (worth_in m z) m.bidders in
      let own : value_of m z ≡ total m.bidders (λ k. worth_in m z (suc k)) = choice-is m.worth z ∙ ap (λ n. total n (λ k. worth_in m z (suc k)))
      (lawful.lengths z win.passed) in
      let b : row_bound m z (λ j. false) f ≤ℤ pos 0 = omega (arith, ints) in
      let q = mul_nonneg p.den (pos 0 -ℤ row_bound m z (λ j. false) f) (omega (arith, ints)) (omega (arith, ints)) in
      let t = mul-add p.den (pos 0 -ℤ row_bound m z (λ j. false) f) (row_bound m z (λ j. false) f) in
      let k : pos 0 -ℤ row_bound m z (λ j. false) f +ℤ row_bound m z (λ j. false) f ≡ pos 0 = omega (arith, ints) in
      let l = ap (λ (a : ℤ). p.den *ℤ a) k in
      omega (arith, ints)

  -- so a block has a member
  pub some-member : pos 0 <ℤ excess → (j : ℕ) × (0 < j) × (j ≤ m.bidders) × IsTrue (s j)
  some-member above = by (some-or_none s m.bidders)
    where
      by : ((j : ℕ) × (0 < j) × (j ≤ m.bidders) × (s j ≡ true)) ⊎ ((j : ℕ) → 0 < j → j ≤ m.bidders → s j ≡ false)
          → (j : ℕ) × (0 < j) × (j ≤ m.bidders) × IsTrue (s j)
      by (inl r) = (r.0, r.1, r.2, r.3)
      by (inr none) = let low = empty-low none in absurd (omega (arith, ints))
