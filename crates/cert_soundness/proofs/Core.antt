-- Payments within the bids at which no allowed choice counts more, by the lowered worths, than all that is paid, are a core point of
-- any market.
use Rattle.std.specs.Prelude.{◌≡◌, ℕ, zero, suc, ◌≤◌, ◌<◌, Bool, true, false, cond, ◌==◌, IsTrue, IsFalse, List, length, ℤ, pos, ◌-ℤ◌, ◌*ℤ◌, ◌≤ℤ◌, refl, if◌then◌else◌}
use Rattle.std.proofs.Common.{inl, inr, ◌∙◌, ap, arith}
use Rattle.std.proofs.lemmas.Bool.{false≢true, cases_Bool, eqb-true, not-false, not_from_false, ne_eqb}
use Rattle.std.proofs.lemmas.Int.{ints}
use Rattle.auction_model.specs.Market.{Market, number_of, sum_after, uses, value_of}
use Rattle.auction_model.specs.Lowered.{of_bidder}
use Rattle.auction_model.specs.Prices.{IsCorePoint, IsUnblocked, everyone, sum_over}
use Rattle.wide_num.specs.Sums.{total}
use Rattle.wide_num.proofs.Sums.{total-scale}
use Rattle.projection_laws.proofs.Sums.{total-le, total-sub}
use Rattle.projection_laws.proofs.PointLaws.{times_zero}
use Rattle.core_laws.proofs.Sums.{over-is, choice-is}
use Rattle.cert_grammar.specs.Certificate.{CertValue}
use Rattle.cert_soundness.specs.MarketTests.{won_in, PaysWithinBids}
use Rattle.cert_soundness.specs.Sound.{cert_point}
use Rattle.cert_soundness.proofs.Bounds.{counted}
use Rattle.cert_soundness.specs.MarketPrices.{lowered_in}

-- a used bidder counts its worth less its surplus, and the coalition has it
pub used-most : (worth surplus lowered : ℤ) (winner member : Bool) → lowered ≡ worth -ℤ (if winner then surplus else pos 0)
    → (winner ≡ false → surplus ≡ pos 0) → IsTrue member
    → (worth -ℤ cond member surplus (pos 0)) ≤ℤ lowered
used-most worth surplus lowered true true e z k = omega (arith, ints, e)
used-most worth surplus lowered false true e z k = omega (arith, ints, e, z refl)
used-most worth surplus lowered winner false e z k = absurd (false≢true k)

-- one that isn't used counts 0, and the coalition may have it
pub idle-most : (worth surplus : ℤ) (member : Bool) → worth ≡ pos 0 → pos 0 ≤ℤ surplus → (worth -ℤ cond member surplus (pos 0)) ≤ℤ pos 0
idle-most worth surplus true e h = omega (arith, ints, e, h)
idle-most worth surplus false e h = omega (arith, ints, e)

-- a bidder with a number other than 0 is used
pub uses-some : (c : List ℕ) (j : ℕ) → 0 < number_of c j → IsTrue (uses c j)
uses-some c j some = not_from_false (number_of c j == 0) (ne_eqb (number_of c j) 0 (λ z. omega (arith, some, z)))

-- what bidder j keeps of its bid, times the denominator
abbrev pub kept : Market → CertValue → ℕ → ℤ
kept m c j = (c.den *ℤ won_in m c j) -ℤ of_bidder c.pay j

module _ (m : Market) (none : (j : ℕ) → m.worth j 0 ≡ pos 0) (c : CertValue) (pays : (place : ℕ) → PaysWithinBids m c place) where
  lost-nothing : (j : ℕ) → IsFalse (uses c.choice j) → won_in m c j ≡ pos 0
  lost-nothing j loses = ap (m.worth j) (eqb-true (number_of c.choice j) 0 (not-false (number_of c.choice j == 0) loses)) ∙ none j

  -- a loser keeps nothing
  pub kept-loser : (j : ℕ) → 0 < j → j ≤ m.bidders → IsFalse (uses c.choice j) → kept m c j ≡ pos 0
  kept-loser j some low loses =
      let p = (pays j).loser some low loses in
      let z = times_zero c.den (won_in m c j) (lost-nothing j loses) in
      omega (arith, ints, p, z)

  -- and nobody pays more than its bid
  pub kept-least : (j : ℕ) → 0 < j → j ≤ m.bidders → pos 0 ≤ℤ kept m c j
  kept-least j some low =
      elim (cases_Bool (uses c.choice j)) [
        | inl wins ↦ (let p = (pays j).winner some low wins in omega (arith, ints, p.1))
        | inr loses ↦ (let z = kept-loser j some low loses in omega (arith, ints, z))
      ]

  -- what a bidder adds to an offer of the coalition k, against what it counts
  offer-term : (k : ℕ → Bool) (j i : ℕ) → 0 < j → j ≤ m.bidders → (0 < i → IsTrue (k j)) → ((c.den *ℤ m.worth j i) -ℤ cond (k j) (kept m c j) (pos 0)) ≤ℤ
      counted (lowered_in m c) j i
  offer-term k j zero some low has = idle-most (c.den *ℤ m.worth j 0) (kept m c j) (k j) (times_zero c.den (m.worth j 0) (none j)) (kept-least j some low)
  offer-term k j (suc i) some low has = used-most (c.den *ℤ m.worth j (suc i)) (kept m c j) (lowered_in m c j (suc i)) (uses c.choice j) (k j) refl
      (kept-loser j some low) (has (omega arith))

  -- if no allowed choice counts more than is paid, no coalition blocks the payments
  unblocked : ((f : List ℕ) → IsTrue (m.allowed f) → length f ≡ m.bidders) →
      ((f : List ℕ) → IsTrue (m.allowed f) → sum_after (counted (lowered_in m c)) 0 f ≤ℤ sum_over everyone (of_bidder c.pay) m.bidders)
      → IsUnblocked m c.choice (cert_point c)
  unblocked lengths most k f t only =
      let n = m.bidders in
      let long = lengths f t in
      let worth : ℕ → ℤ = λ j. m.worth (suc j) (number_of f (suc j)) in
      let part : ℕ → ℤ = λ j. cond (k (suc j)) (kept m c (suc j)) (pos 0) in
      let counts : ℕ → ℤ = λ j. counted (lowered_in m c) (suc j) (number_of f (suc j)) in
      let value : c.den *ℤ value_of m f ≡ c.den *ℤ total n worth = ap (λ (z : ℤ). c.den *ℤ z) (choice-is m.worth f ∙ ap (λ (x : ℕ). total x worth) long) in
      let sums : sum_after (counted (lowered_in m c)) 0 f ≡ total n counts = choice-is (counted (lowered_in m c)) f ∙ ap (λ (x : ℕ). total x counts) long in
      let each : total n (λ j. c.den *ℤ worth j -ℤ part j) ≤ℤ total n counts =
      total-le n (λ j. c.den *ℤ worth j -ℤ part j) counts (λ j lt. offer-term k (suc j) (number_of f (suc j)) (omega arith) (omega (arith, lt))
      (λ some. only (suc j) (omega arith) (omega (arith, lt)) (uses-some f (suc j) some))) in
      let split = total-sub n (λ j. c.den *ℤ worth j) part in
      let scaled = total-scale n c.den worth in
      let members : sum_over k (kept m c) n ≡ total n part = over-is k (kept m c) n in
      let low = most f t in
      omega (arith, ints, each, split, scaled, value, low, sums, members)

  -- with a payment for each bidder and a positive denominator they are a core point
  pub core : pos 1 ≤ℤ c.den → length c.pay ≡ m.bidders → ((f : List ℕ) → IsTrue (m.allowed f) → length f ≡ m.bidders) →
      ((f : List ℕ) → IsTrue (m.allowed f) → sum_after (counted (lowered_in m c)) 0 f ≤ℤ sum_over everyone (of_bidder c.pay) m.bidders)
      → IsCorePoint m c.choice (cert_point c)
  core den_positive pay_is lengths most = record {
    den_positive = den_positive;
    bidders = pay_is;
    winners = λ j some low wins. (pays j).winner some low wins;
    losers = λ j some low loses. (pays j).loser some low loses;
    unblocked = unblocked lengths most;
  }
