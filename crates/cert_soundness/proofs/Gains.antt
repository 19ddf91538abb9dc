-- Worths lowered by what each bidder gains at the payments are the lowered worths of the tests, in any market.
use Rattle.std.specs.Prelude.{◌≡◌, ℕ, zero, suc, ◌-◌, ◌≤◌, ◌<◌, Bool, List, length, slice_index_or, ℤ, pos, ◌≤ℤ◌, if◌then◌else◌}
use Rattle.std.proofs.Common.{inl, inr, sym, ◌∙◌, ap, arith}
use Rattle.std.proofs.lemmas.Bool.{cases_Bool, cases_lt}
use Rattle.std.proofs.lemmas.List.{get_or_past}
use Rattle.std.proofs.lemmas.Int.{ints, clamps}
use Rattle.auction_model.specs.Market.{Market, uses}
use Rattle.auction_model.specs.Lowered.{lowered, of_bidder}
use Rattle.core_laws.specs.Surplus.{surpluses_of, AsksWinnersOnly}
use Rattle.core_laws.proofs.Surplus.{surpluses-are, surpluses-length}
use Rattle.cert_grammar.specs.Certificate.{CertValue}
use Rattle.cert_soundness.specs.MarketTests.{PaysWithinBids}
use Rattle.cert_soundness.specs.Sound.{cert_point}
use Rattle.cert_soundness.specs.MarketPrices.{lowered_in}
use Rattle.cert_soundness.proofs.Core.{kept, kept-least, kept-loser}

-- a bidder that gains something counts nothing if it isn't used
pub idle-none : (surplus : List ℤ) (j : ℕ) (den : ℤ) (worth : ℕ → ℕ → ℤ) → pos 0 ≤ℤ of_bidder surplus j → lowered den worth surplus j 0 ≡ pos 0
idle-none surplus j den worth h = omega (arith, ints, clamps, h)

module _ (m : Market) (none : (j : ℕ) → m.worth j 0 ≡ pos 0) (c : CertValue) (pay_is : length c.pay ≡ m.bidders)
    (pays : (place : ℕ) → PaysWithinBids m c place) where
  abbrev gains : List ℤ
  gains = surpluses_of m c.choice c.den c.pay

  asks_winners : AsksWinnersOnly m c.choice (cert_point c)
  asks_winners = record { bidders = pay_is; losers = λ j some low loses. (pays j).loser some low loses }

  gain-is : (k : ℕ) → k < m.bidders → of_bidder gains (suc k) ≡ kept m c (suc k)
  gain-is k lt = (surpluses-are m c.choice (cert_point c) asks_winners).surpluses k lt

  gain-least : (n : ℕ) → pos 0 ≤ℤ slice_index_or gains n (pos 0)
  gain-least n = elim (cases_lt n m.bidders) [
    | inl inside ↦ (
        let back : suc n - 1 ≡ n = omega arith in
        let e : slice_index_or gains n (pos 0) ≡ kept m c (suc n) = ap (λ (x : ℕ). slice_index_or gains x (pos 0)) (sym back) ∙ gain-is n inside in
        let h = kept-least m none c pays (suc n) (omega arith) (omega (arith, inside)) in
        omega (arith, ints, e, h))
    | inr past ↦ (
        let e : slice_index_or gains n (pos 0) ≡ pos 0 = get_or_past gains n (pos 0) (omega (arith, past, pay_is, surpluses-length m c.choice c.den 0 c.pay)) in
        omega (arith, ints, e))
  ]

  -- no bidder counts anything if it isn't used
  pub none-counted : (j : ℕ) → lowered c.den m.worth gains j 0 ≡ pos 0
  none-counted j = idle-none gains j c.den m.worth (gain-least (j - 1))

  kept-is : (k : ℕ) → k < m.bidders → (if uses c.choice (suc k) then kept m c (suc k) else pos 0) ≡ kept m c (suc k)
  kept-is k lt = elim (cases_Bool (uses c.choice (suc k))) [
    | inl wins ↦ ap (λ (b : Bool). if b then kept m c (suc k) else pos 0) wins
    | inr loses ↦ ap (λ (b : Bool). if b then kept m c (suc k) else pos 0) loses
        ∙ sym (kept-loser m none c pays (suc k) (omega arith) (omega (arith, lt)) loses)
  ]

  -- den times the bid less the gain, in the words of the tests
  pub bid-counted : (j i : ℕ) → 0 < j → j ≤ m.bidders → 0 < i → lowered c.den m.worth gains j i ≡ lowered_in m c j i
  bid-counted zero i some low positive = absurd (omega (arith, some))
  bid-counted (suc k) zero some low positive = absurd (omega (arith, positive))
  bid-counted (suc k) (suc i) some low positive =
      let g = gain-is k (omega (arith, low)) in
      let e : (if uses c.choice (suc k) then kept m c (suc k) else pos 0) ≡ kept m c (suc k) = kept-is k (omega (arith, low)) in
      omega (arith, ints, g, e)
