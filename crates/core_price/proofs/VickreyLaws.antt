-- Vickrey prices lie between 0 and the bid, and the choice without a winner gives its single row.
use Rattle.std.specs.Prelude.{◌≡◌, ℕ, suc, ◌-◌, ◌<◌, ◌≤◌, ◌==◌, Bool, true, cond, not, IsTrue, List, length, get_or, slice_set, ℤ, pos, ◌-ℤ◌, ◌≤ℤ◌, refl}
use Rattle.std.proofs.Common.{sym, ◌∙◌, ap, arith, subst}
use Rattle.std.proofs.lemmas.Int.{ints}
use Rattle.std.proofs.lemmas.Bool.{and_from, and_parts, eq-eqb, eqb-true, ne_eqb}
use Rattle.std.proofs.lemmas.List.{get_or-set_same, get_or-set_other}
use Rattle.auction_model.specs.Market.{Market, number_of, uses, value_of, worth_in}
use Rattle.auction_model.specs.Greatest.{IsFirstGreatest, IsWinning}
use Rattle.auction_model.specs.Lawful.{IsMarket}
use Rattle.auction_model.specs.Prices.{IsVickreyPrice, allowed_without, sum_over}
use Rattle.auction_model.specs.Blocks.{IsIdleSet, row_bound}
use Rattle.core_laws.proofs.Rows.{over-same}
use Rattle.core_laws.proofs.Sums.{choice-is, over-is}
use Rattle.wide_num.specs.Sums.{total}
use Rattle.core_price.proofs.Core.{sum-change}

-- the value of an allowed choice, bidder by bidder
pub value-is : (m : Market) → IsMarket m → (c : List ℕ) → IsTrue (m.allowed c) → value_of m c ≡ total m.bidders (λ k. worth_in m c (suc k))
value-is m lawful c t = choice-is m.worth c ∙ ap (λ n. total n (λ k. worth_in m c (suc k))) (lawful.lengths c t)

-- what all win with but one bidder
others-win : (m : Market) → IsMarket m → (z : List ℕ) → IsTrue (m.allowed z) → (k : ℕ) → k < m.bidders
    → sum_over (λ j. not (j == suc k)) (worth_in m z) m.bidders ≡ value_of m z -ℤ worth_in m z (suc k)
others-win m lawful z t k lt =
    let a = over-is (λ j. not (j == suc k)) (worth_in m z) m.bidders in
    let b = sum-change m.bidders (λ i. worth_in m z (suc i)) (λ i. cond (not (suc i == suc k)) (worth_in m z (suc i)) (pos 0)) k lt
    (λ i li d. sym (ap (λ q. cond (not q) (worth_in m z (suc i)) (pos 0)) (ne_eqb (suc i) (suc k) (λ e. d (let x = e in omega arith))))) in
    let c : cond (not (suc k == suc k)) (worth_in m z (suc k)) (pos 0) ≡ pos 0 = ap (λ q. cond (not q) (worth_in m z (suc k)) (pos 0))
    (eq-eqb (suc k) (suc k) refl) in
    let v = value-is m lawful z t in
    omega (arith, ints, a, b, c, v)

-- the winning choice without a winner
without : (m : Market) → IsMarket m → (z : List ℕ) → IsTrue (m.allowed z) → (k : ℕ) → k < m.bidders → (IsTrue (allowed_without m (suc k) (slice_set z k 0)))
    × (value_of m (slice_set z k 0) ≡ value_of m z -ℤ worth_in m z (suc k))
without m lawful z t k lt =
    let b : suc k - 1 ≡ k = omega arith in
    let ok : IsTrue (m.allowed (slice_set z k 0)) = subst (λ n. IsTrue (m.allowed (slice_set z n 0))) b (lawful.fewer z (suc k) t) in
    let inside : k < length z = omega (arith, lt, lawful.lengths z t) in
    let none : number_of (slice_set z k 0) (suc k) ≡ 0 = ap (λ n. get_or (slice_set z k 0) n 0) b ∙ get_or-set_same z k 0 0 inside in
    let unused : not (uses (slice_set z k 0) (suc k)) ≡ true = ap (λ n. not (not (n == 0))) none in
    let w = value-is m lawful (slice_set z k 0) ok in
    let v = value-is m lawful z t in
    let c = sum-change m.bidders (λ i. worth_in m z (suc i)) (λ i. worth_in m (slice_set z k 0) (suc i)) k lt (λ i li d. ap (m.worth (suc i)) (other i d)) in
    let z0 : worth_in m (slice_set z k 0) (suc k) ≡ pos 0 = ap (m.worth (suc k)) none ∙ lawful.none (suc k) in
    (and_from (m.allowed (slice_set z k 0)) (not (uses (slice_set z k 0) (suc k))) ok unused, omega (arith, ints, w, v, c, z0))
  where
    other : (i : ℕ) → ¬ (i ≡ k) → number_of z (suc i) ≡ number_of (slice_set z k 0) (suc i)
    other i d = let e : suc i - 1 ≡ i = omega arith in ap (λ n. get_or z n 0) e ∙ sym (ap (λ n. get_or (slice_set z k 0) n 0) e ∙ get_or-set_other z k i 0 0 d)

-- the Vickrey price of a winner is from 0 to what it wins
pub price-range : (m : Market) → IsMarket m → (z : List ℕ) → IsWinning m z → (k : ℕ) → k < m.bidders → uses z (suc k) ≡ true → (v : ℤ)
    → IsVickreyPrice m z (suc k) v → (pos 0 ≤ℤ v) × (v ≤ℤ worth_in m z (suc k))
price-range m lawful z win k lt used v price =
    let g = price.0 used in
    let w = without m lawful z win.passed k lt in
    let low = g.bound (slice_set z k 0) w.0 in
    let is = w.1 in
    let r = g.reached in
    let most = win.greatest r.0 (and_parts (m.allowed r.0) (not (uses r.0 (suc k))) r.1).0 in
    let reached = r.2 in
    (omega (arith, ints, low, is), omega (arith, ints, most, reached))

-- The set with the one winner k + 1, and the first of the greatest choices without it: the choice gives the set its price,
-- and no choice that doesn't use the winner gives it more.
module _ (m : Market) (lawful : IsMarket m) (z : List ℕ) (win : IsWinning m z) (k : ℕ) (lt : k < m.bidders) (used : uses z (suc k) ≡ true) (v : ℤ)
    (price : IsVickreyPrice m z (suc k) v) (c : List ℕ) (first : IsFirstGreatest (allowed_without m (suc k)) (value_of m) c)
    (members : ℕ → Bool) (is : (j : ℕ) → 0 < j → j ≤ m.bidders → members j ≡ (j == suc k)) where
  -- that choice is allowed
  pub single-allowed : IsTrue (m.allowed c)
  single-allowed = (and_parts (m.allowed c) (not (uses c (suc k))) first.passed).0

  -- it doesn't use the one winner of the set
  pub single-idle : IsIdleSet m z c members
  single-idle j some inside member =
      let e : j ≡ suc k = eqb-true j (suc k) (sym (is j some inside) ∙ member) in
      and_from (uses z j) (not (uses c j)) (ap (uses z) e ∙ used) (ap (λ n. not (uses c n)) e ∙ (and_parts (m.allowed c) (not (uses c (suc k))) first.passed).1)

  bound-is : (f : List ℕ) → row_bound m z members f ≡ value_of m f -ℤ (value_of m z -ℤ worth_in m z (suc k))
  bound-is f =
      let a = over-same (λ j. not (members j)) (λ j. not (j == suc k)) (worth_in m z) m.bidders (λ j some inside. ap not (is j some inside)) in
      let b = others-win m lawful z win.passed k lt in
      omega (arith, ints, a, b)

  -- the bound that it gives the set is the Vickrey price
  pub single-given : v ≡ row_bound m z members c
  single-given =
      let g = price.0 used in
      let r = g.reached in
      let a = g.bound c first.passed in
      let b = first.greatest r.0 r.1 in
      let e = r.2 in
      let f = bound-is c in
      omega (arith, ints, a, b, e, f)

  -- no allowed choice that doesn't use the winner gives the set a greater bound
  pub single-greatest : (g : List ℕ) → IsTrue (m.allowed g) → IsIdleSet m z g members → row_bound m z members g ≤ℤ v
  single-greatest g ok idle =
      let member : members (suc k) ≡ true = is (suc k) (omega arith) (omega arith) ∙ eq-eqb (suc k) (suc k) refl in
      let out = (and_parts (uses z (suc k)) (not (uses g (suc k))) (idle (suc k) (omega arith) (omega arith) member)).1 in
      let a = first.greatest g (and_from (m.allowed g) (not (uses g (suc k))) ok out) in
      let b = bound-is g in
      let d = bound-is c in
      let e = single-given in
      omega (arith, ints, a, b, d, e)
