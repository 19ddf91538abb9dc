-- The list of surpluses, bidder by bidder.
use Rattle.std.specs.Prelude.{◌≡◌, ℕ, zero, suc, ◌+◌, ◌-◌, ◌<◌, List, [], ◌∷◌, ◌++◌, drop, length, get_or, ℤ, pos, ◌-ℤ◌, ◌*ℤ◌, refl}
use Rattle.std.proofs.Common.{sym, ◌∙◌, ap, arith, append_assoc, drop-cons, add-one}
use Rattle.auction_model.specs.Market.{Market, worth_in}
use Rattle.auction_model.specs.Prices.{Point}
use Rattle.core_laws.specs.Surplus.{surpluses_after, surpluses_of, AsksWinnersOnly}
use Rattle.core_laws.proofs.Excess.{IsPaid}

surplus-at : (m : Market) (z : List ℕ) (den : ℤ) (s : ℕ) (at : List ℤ) (k : ℕ) → k < length at → get_or (surpluses_after m z den s at) k (pos 0) ≡
    (den *ℤ worth_in m z (suc (s + k))) -ℤ get_or at k (pos 0)
surplus-at m z den s [] k lt = absurd (omega arith)
surplus-at m z den s (a ∷ at) zero lt = let e : s + 0 ≡ s = omega arith in rw e refl
surplus-at m z den s (a ∷ at) (suc k) lt = let e : suc s + k ≡ s + suc k = omega arith in surplus-at m z den (suc s) at k (omega arith) ∙ rw e refl

-- they are those of a point that asks nothing of losers
pub surpluses-are : (m : Market) (z : List ℕ) (p : Point) → AsksWinnersOnly m z p → IsPaid m z p (surpluses_of m z p.den p.at)
surpluses-are m z p asks = record {
  losers = λ k lt e. asks.losers (suc k) (omega arith) (omega arith) e;
  surpluses = λ k lt. let a : suc k - 1 ≡ k = omega arith in let b : 0 + k ≡ k = omega arith in let h =
      surplus-at m z p.den 0 p.at k (omega (arith, asks.bidders)) in rw a (h ∙ rw b refl);
}

-- there are as many surpluses as payments
pub surpluses-length : (m : Market) (z : List ℕ) (den : ℤ) (k : ℕ) (at : List ℤ) → length (surpluses_after m z den k at) ≡ length at
surpluses-length m z den k [] = refl
surpluses-length m z den k (a ∷ at) = ap suc (surpluses-length m z den (suc k) at)

-- the surpluses after k bidders are that of the next bidder and those after it
pub surpluses-step : (m : Market) (z : List ℕ) (den : ℤ) (at : List ℤ) (k : ℕ) → k < length at → surpluses_after m z den k (drop k at) ≡
    ((den *ℤ worth_in m z (suc k)) -ℤ get_or at k (pos 0)) ∷ surpluses_after m z den (k + 1) (drop (k + 1) at)
surpluses-step m z den at k lt =
    let e : drop k at ≡ get_or at k (pos 0) ∷ drop (k + 1) at = rw (add-one, drop-cons at k (pos 0)) refl in
    let u : k + 1 ≡ suc k = omega arith in
    rw (e, u) refl

-- if the next surplus is put after those made, these and those to come are still the whole list
pub surpluses-pushed : (m : Market) (z : List ℕ) (den : ℤ) (at made all : List ℤ) (k : ℕ) (x : ℤ) → k < length at → made
    ++ surpluses_after m z den k (drop k at) ≡ all → x ≡ (den *ℤ worth_in m z (suc k)) -ℤ get_or at k (pos 0)
    → (made ++ x ∷ []) ++ surpluses_after m z den (k + 1) (drop (k + 1) at) ≡ all
surpluses-pushed m z den at made all k x lt e is = rw (is, append_assoc) (sym (ap (λ t. made ++ t) (surpluses-step m z den at k lt)) ∙ e)
