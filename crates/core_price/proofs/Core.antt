-- A free point with multipliers on rows is in the core: no winner pays more than its bid, though no row asks for it.
use Rattle.std.specs.Prelude.{Bool, IsTrue, List, cond, false, length, not, pos, refl, suc, true, zero, ℕ, ℤ, ◌&&◌, ◌*ℤ◌, ◌+ℤ◌, ◌-ℤ◌, ◌-◌, ◌<◌, ◌==◌}
use Rattle.std.specs.Prelude.{◌≡◌, ◌≤ℤ◌, ◌≤◌}
use Rattle.std.proofs.Common.{◌∙◌, ap, arith, ◌⊎◌, inl, inr}
use Rattle.std.proofs.lemmas.Int.{ints}
use Rattle.std.proofs.lemmas.Bool.{ne_eqb, eq-eqb}
use Rattle.auction_model.specs.Market.{Market, uses, worth_in}
use Rattle.auction_model.specs.Greatest.{IsWinning}
use Rattle.auction_model.specs.Lawful.{IsMarket}
use Rattle.auction_model.specs.Lowered.{of_bidder}
use Rattle.auction_model.specs.Prices.{IsCorePoint, IsUnblocked, Point}
use Rattle.auction_model.specs.Blocks.{excess_of}
use Rattle.far_num.specs.Members.{holds}
use Rattle.far_num.specs.declared.Row.{Row}
use Rattle.nearest_point.specs.Problem.{bounds, coefficients, row_at}
use Rattle.nearest_point.proofs.Places.{lt_or}
use Rattle.projection_laws.specs.Multipliers.{AreFirst, SumsTo}
use Rattle.projection_laws.proofs.Order.{zero_or}
use Rattle.core_laws.specs.Rows.{IsGivenBy}
use Rattle.core_laws.specs.Winners.{for_bidders, has_bit, has_member, winners_in}
use Rattle.core_laws.proofs.Blocks.{excess-row, free-excess, idle-outside}
use Rattle.core_laws.proofs.Excess.{excess-is, terms}
use Rattle.wide_num.specs.Sums.{dot, nth, total}
use Rattle.wide_num.proofs.Sums.{total-same}
use Rattle.core_price.specs.SoFar.{choice_at}
use Rattle.core_price.specs.Turns.{point_of}
use Rattle.core_price.proofs.Places.{place-of}
use Rattle.core_price.proofs.Points.{at-bidder, asks-winners}

-- if one number of a sum changes, the sum changes by as much
pub sum-change : (n : ℕ) (f g : ℕ → ℤ) (k : ℕ) → k < n → ((i : ℕ) → i < n → ¬ (i ≡ k) → f i ≡ g i) → total n g ≡ total n f +ℤ (g k -ℤ f k)
sum-change zero f g k lt h = absurd (omega arith)
sum-change (suc n) f g k lt h =
    elim (lt_or k n lt) [
      | inl l ↦ (let a = sum-change n f g k l (λ i li d. h i (omega arith) d) in let b : f n ≡ g n = h n (omega arith) (λ e. absurd (omega arith)) in
          omega (arith, ints))
      | inr e ↦ (let a = total-same n f g (λ i li. h i (omega arith) (λ q. absurd (omega arith))) in let c = ap f e in let d = ap g e in omega (arith, ints))
    ]

find-term : (n : ℕ) (f : ℕ → ℤ) → ¬ (total n f ≡ pos 0) → (i : ℕ) × (i < n) × (f i ≡ pos 0 → ⊥)
find-term zero f h = absurd (h refl)
find-term (suc n) f h = by (zero_or (f n)) (λ d. find-term n f d)
  where
    by : (f n ≡ pos 0) ⊎ ¬ (f n ≡ pos 0) → (¬ (total n f ≡ pos 0) → (i : ℕ) × (i < n) × (f i ≡ pos 0 → ⊥)) → (i : ℕ) × (i < suc n) × (f i ≡ pos 0 → ⊥)
    by (inr d) rec = (n, omega arith, d)
    by (inl e) rec = let r = rec (λ q. h (omega (arith, ints))) in (r.0, omega (arith, r.1), r.2)

module _ (m : Market) (lawful : IsMarket m) (z : List ℕ) (win : IsWinning m z) (rows : List Row) (choices : List (List ℕ))
    (given : (i : ℕ) → i < length rows → IsGivenBy m z (row_at rows i) (choice_at choices i))
    (den : ℤ) (at first : List ℤ) (firsts : AreFirst (winners_in z) (length rows) (coefficients rows) (bounds rows) den (nth at) (nth first))
    (sums : SumsTo (winners_in z) (length rows) (coefficients rows) den (nth first)) (free : IsUnblocked m z (point_of z den at)) where
  len : length z ≡ m.bidders
  len = lawful.lengths z win.passed

  -- a price above its bid lies in a tight row, and the row without that winner would be violated
  tight-below : (i : ℕ) → i < length rows → dot (winners_in z) (coefficients rows i) (nth at) ≡ den *ℤ bounds rows i → (k : ℕ) → k < m.bidders
      → has_member z (row_at rows i).members (suc k) ≡ true → of_bidder (for_bidders z at) (suc k) ≤ℤ (den *ℤ worth_in m z (suc k))
  tight-below i lt tight k lk member =
      let row = given i lt in
      let p : Point = point_of z den at in
      let c = choice_at choices i in
      let bits = (row_at rows i).members in
      let e = excess-row m z len den at bits c in
      let g = ap (λ (t : ℤ). den *ℤ t) row.given in
      let none : excess_of m z (point_of z den at) (has_member z bits) c ≡ pos 0 = omega (arith, ints) in
      let x = excess-is m lawful z (point_of z den at) c row.allowed (has_member z bits) in
      let y = excess-is m lawful z (point_of z den at) c row.allowed (λ j. has_member z bits j && not (j == suc k)) in
      let w = free-excess m lawful z (point_of z den at) free c row.allowed (λ j. has_member z bits j && not (j == suc k))
      (λ j q le u. out (has_member z bits j) (j == suc k) (idle-outside m z c (has_member z bits) row.idle j q le u)) in
      let h = sum-change m.bidders (terms m z (point_of z den at) c (λ j. not (has_member z bits j)))
      (terms m z (point_of z den at) c (λ j. not (has_member z bits j && not (j == suc k)))) k lk
      (λ l ll d. ap (λ t. (den *ℤ worth_in m c (suc l)) -ℤ cond t (den *ℤ worth_in m z (suc l)) (of_bidder (for_bidders z at) (suc l)))
      (other (has_member z bits (suc l)) (suc l == suc k) (ne_eqb (suc l) (suc k) (λ q. d (let a = q in omega arith))))) in
      let own : terms m z (point_of z den at) c (λ j. not (has_member z bits j)) k ≡ (den *ℤ worth_in m c (suc k)) -ℤ of_bidder (for_bidders z at) (suc k) =
      ap (λ t. (den *ℤ worth_in m c (suc k)) -ℤ cond (not t) (den *ℤ worth_in m z (suc k)) (of_bidder (for_bidders z at) (suc k))) member in
      let now : terms m z (point_of z den at) c (λ j. not (has_member z bits j && not (j == suc k))) k ≡ (den *ℤ worth_in m c (suc k)) -ℤ
      (den *ℤ worth_in m z (suc k)) = ap (λ t. (den *ℤ worth_in m c (suc k)) -ℤ cond t (den *ℤ worth_in m z (suc k))
      (of_bidder (for_bidders z at) (suc k))) (gone (has_member z bits (suc k)) (suc k == suc k) (eq-eqb (suc k) (suc k) refl)) in
      omega (arith, ints)
    where
      out : (s b : Bool) → not s ≡ true → not (s && not b) ≡ true
      out true b e = absurd (lie e)
        where
          lie : false ≡ true → ⊥
          lie h = cc
      out false b e = refl

      other : (s b : Bool) → b ≡ false → not s ≡ not (s && not b)
      other true true e = absurd (lie e)
        where
          lie : true ≡ false → ⊥
          lie h = cc
      other true false e = refl
      other false b e = refl

      gone : (s b : Bool) → b ≡ true → not (s && not b) ≡ true
      gone true true e = refl
      gone true false e = absurd (lie e)
        where
          lie : false ≡ true → ⊥
          lie h = cc
      gone false b e = refl

  not-above_bid : (k : ℕ) → k < m.bidders → uses z (suc k) ≡ true → of_bidder (for_bidders z at) (suc k) ≤ℤ (den *ℤ worth_in m z (suc k))
  not-above_bid k lk used =
      let q = place-of z k (omega (arith, len)) used in
      let col = sums q.0 q.1.inside in
      let t = find-term (length rows) (λ i. nth first i *ℤ coefficients rows i q.0) (λ e. let d = firsts.positive in absurd (omega (arith, ints))) in
      let f : ¬ (nth first t.0 ≡ pos 0) = λ e. t.2 (ap (λ (x : ℤ). x *ℤ coefficients rows t.0 q.0) e ∙ omega (arith, ints)) in
      let h : ¬ (holds (row_at rows t.0).members q.0 ≡ pos 0) = λ e. t.2 (ap (λ (x : ℤ). nth first t.0 *ℤ x) e ∙ omega (arith, ints)) in
      let b : suc k - 1 ≡ k = omega arith in
      tight-below t.0 t.1 (firsts.tight t.0 t.1 f) k lk (ap (has_bit z (row_at rows t.0).members) b ∙ q.1.member (row_at rows t.0).members h)

  -- a free point with such multipliers, over a positive denominator and with no payment below 0, is in the core
  pub core-of : pos 1 ≤ℤ den → ((i : ℕ) → i < winners_in z → pos 0 ≤ℤ nth at i) → IsCorePoint m z (point_of z den at)
  core-of dp nonneg =
      let asks = asks-winners m z len den at in
      record {
        den_positive = dp;
        bidders = asks.bidders;
        winners = λ j q le u. winner j q le u;
        losers = asks.losers;
        unblocked = free;
      }
    where
      winner : (j : ℕ) → 0 < j → j ≤ m.bidders → IsTrue (uses z j) → (pos 0 ≤ℤ of_bidder (for_bidders z at) j)
          × (of_bidder (for_bidders z at) j ≤ℤ (den *ℤ worth_in m z j))
      winner zero q le u = absurd (omega arith)
      winner (suc k) q le u =
          let s = place-of z k (omega (arith, len)) u in
          let e = at-bidder z at k ∙ s.1.number at in
          let n = nonneg s.0 s.1.inside in
          (omega (arith, ints), not-above_bid k (omega arith) u)
