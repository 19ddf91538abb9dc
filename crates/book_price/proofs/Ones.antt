-- Weights of 1.
use Rattle.std.specs.Prelude.{◌≡◌, ℕ, zero, suc, ◌-◌, ◌<◌, ◌≤◌, List, [], ◌∷◌, get_or, length, replicate, refl}
use Rattle.std.proofs.Common.{inl, inr, arith}
use Rattle.std.proofs.lemmas.List.{get_or-replicate, length-replicate}
use Rattle.auction_model.specs.Prices.{AreWeights, weight_of}
use Rattle.core_laws.specs.Weights.{FewWin, ManyWin, WeighAlike, weights_in}
use Rattle.core_laws.specs.Winners.{winners_in}

-- each bidder weighs 1
pub one-at : (n j : ℕ) → 0 < j → j ≤ n → weight_of (replicate n 1) j ≡ 1
one-at n j some inside = get_or-replicate {A = ℕ} n (j - 1) 1 0 (omega (arith, some, inside))

-- these are weights
pub ones-weigh : (n : ℕ) → AreWeights n (replicate n 1)
ones-weigh n = record {
  long = length-replicate {A = ℕ} n 1;
  some = λ k lt. (let e = get_or-replicate {A = ℕ} n k 1 0 lt in omega (arith, e));
  most = λ k lt. (let e = get_or-replicate {A = ℕ} n k 1 0 lt in omega (arith, e));
}

weight-one : (z : List ℕ) (n : ℕ) → length z ≤ n → (i : ℕ) → i < winners_in z → get_or (weights_in z (replicate n 1)) i 0 ≡ 1
weight-one [] n le i lt = absurd (omega arith)
weight-one (x ∷ z) zero le i lt = absurd (omega arith)
weight-one (zero ∷ z) (suc n) le i lt = weight-one z n (omega arith) i lt
weight-one (suc x ∷ z) (suc n) le zero lt = refl
weight-one (suc x ∷ z) (suc n) le (suc i) lt = weight-one z n (omega arith) i (omega arith)

-- all winners weigh 1
pub winners-ones : (z : List ℕ) (n : ℕ) → length z ≤ n → WeighAlike z (replicate n 1)
winners-ones z n le i lt = weight-one z n le i lt

-- no more bidders win than there are
pub winners-few : (z : List ℕ) → winners_in z ≤ length z
winners-few [] = omega arith
winners-few (zero ∷ z) = let r = winners-few z in omega (arith, r)
winners-few (suc i ∷ z) = let r = winners-few z in omega (arith, r)

-- of at most six bidders who weigh 1 few enough win, and never too many
pub six-few : (z : List ℕ) (n : ℕ) → length z ≤ n → n ≤ 6 → FewWin z (replicate n 1)
six-few z n le six = let w = winners-few z in (omega (arith, le, six, w), inl (winners-ones z n le))

-- at most six bidders who weigh 1 never have too many winners
pub none-many : (z : List ℕ) (n : ℕ) → length z ≤ n → n ≤ 6 → ManyWin z (replicate n 1) → ⊥
none-many z n le six (inl more) = let w = winners-few z in absurd (omega (arith, le, six, w, more))
none-many z n le six (inr more) = absurd (more.1 (winners-ones z n le))
