-- The point of a turn meets the conditions of the look for a block, and leaves room for the whole value.
use Rattle.std.specs.Prelude.{IsFalse, List, false, length, negsuc, pos, suc, true, unsigned_abs, zero, ℕ, ℤ, ◌*ℤ◌, ◌*◌, ◌+ℤ◌, ◌+◌, ◌-ℤ◌, ◌<ℤ◌, ◌<◌}
use Rattle.std.specs.Prelude.{◌^◌, ◌≡◌, ◌≤ℤ◌, ◌≤◌}
use Rattle.std.proofs.Common.{◌∙◌, ap, arith, inl, inr, ◌⊎◌}
use Rattle.std.proofs.lemmas.Int.{ints}
use Rattle.std.proofs.lemmas.Bool.{cases_Bool}
use Rattle.std.proofs.Math.Nat.{mul-le-mul}
use Rattle.auction_model.specs.Market.{Market, uses, value_of, worth_in}
use Rattle.auction_model.specs.Greatest.{IsWinning}
use Rattle.auction_model.specs.Lawful.{IsMarket}
use Rattle.auction_model.specs.Lowered.{of_bidder, sum_to}
use Rattle.auction_model.specs.Prices.{everyone, sum_over}
use Rattle.blocking.specs.Look.{CanLook}
use Rattle.nearest_point.specs.Numbers.{AreBelow}
use Rattle.projection_laws.proofs.Order.{mul_nonneg}
use Rattle.core_laws.specs.Surplus.{surpluses_of}
use Rattle.core_laws.specs.Winners.{for_bidders, winners_in}
use Rattle.core_laws.proofs.Sizes.{unused-worth, won-low, worth-nonneg}
use Rattle.core_laws.proofs.Surplus.{surpluses-are, surpluses-length}
use Rattle.core_laws.proofs.Winners.{all-bidders, loser-zero, paid-zip}
use Rattle.wide_num.specs.Sums.{nth, total}
use Rattle.core_price.specs.Turns.{point_of}
use Rattle.core_price.proofs.Division.{size-below}
use Rattle.core_price.proofs.Places.{place-of}
use Rattle.core_price.proofs.Points.{asks-winners, at-bidder}

few-sum : (n : ℕ) (f : ℕ → ℤ) (b : ℕ) → ((i : ℕ) → i < n → f i <ℤ pos b) → total n f ≤ℤ pos (n * b)
few-sum zero f b h = omega (arith, ints)
few-sum (suc n) f b h = let r = few-sum n f b (λ i lt. h i (omega arith)) in let o = h n (omega arith) in omega (arith, ints)

abs-sum : (n : ℕ) (f : ℕ → ℕ) (b : ℕ) → ((j : ℕ) → 0 < j → j ≤ n → f j ≤ b) → sum_to f n ≤ n * b
abs-sum zero f b h = omega arith
abs-sum (suc n) f b h = let r = abs-sum n f b (λ j q le. h j q (omega arith)) in let o = h (suc n) (omega arith) (omega arith) in omega arith

-- a denominator of a turn times an amount of at most 2^46 is at most 2^80
pub small-product : (d w : ℤ) → pos 0 ≤ℤ d → d ≤ℤ pos (320 ^ 4) → pos 0 ≤ℤ w → w ≤ℤ pos (2 ^ 46) → (d *ℤ w) ≤ℤ pos (2 ^ 80)
small-product (negsuc d) w a b p q = absurd (omega (arith, ints))
small-product (pos d) (negsuc w) a b p q = absurd (omega (arith, ints))
small-product (pos d) (pos w) a b p q =
    let r : d * w ≤ 320 ^ 4 * 2 ^ 46 = (let x : d ≤ 320 ^ 4 = omega (arith, ints) in let y : w ≤ 2 ^ 46 = omega (arith, ints) in mul-le-mul x y) in
    omega (arith, ints)

abs-of : (x : ℤ) (b : ℕ) → x ≤ℤ pos b → (pos 0 -ℤ pos b) ≤ℤ x → unsigned_abs x ≤ b
abs-of (pos a) b p q = omega (arith, ints)
abs-of (negsuc a) b p q = omega (arith, ints)

whole-range : (n d v s : ℕ) → n ≤ 64 → d ≤ 320 ^ 4 → v ≤ 2 ^ 46 → s ≤ n * 2 ^ 110 → n * d * v + s < 2 ^ 120
whole-range n d v s a b c e =
    let p : n * d ≤ 64 * 320 ^ 4 = (let x : d ≤ 320 ^ 4 = omega arith in mul-le-mul a x) in
    let q : n * d * v ≤ 64 * 320 ^ 4 * 2 ^ 46 = mul-le-mul p c in
    omega arith

-- den times one more than the value is in the range
pub value-range : (d v : ℤ) (w : ℕ) → pos 1 ≤ℤ d → d ≤ℤ pos (320 ^ 4) → pos 0 ≤ℤ v → v ≤ℤ pos (w * 2 ^ 42) → w ≤ 6 → (d *ℤ (v +ℤ pos 1)) <ℤ pos (2 ^ 120)
value-range d v w a b p q few = let r = small-product d (v +ℤ pos 1) (omega (arith, ints)) b (omega (arith, ints)) (omega (arith, ints)) in omega (arith, ints)

module _ (m : Market) (lawful : IsMarket m) (z : List ℕ) (win : IsWinning m z) (small : m.bidders ≤ 64) (few : winners_in z ≤ 6)
    (worth : value_of m z ≤ℤ pos (winners_in z * 2 ^ 42)) (den : ℤ) (at : List ℤ) (long : length at ≡ winners_in z)
    (dp : pos 1 ≤ℤ den) (dm : den ≤ℤ pos (320 ^ 4)) (low : (i : ℕ) → i < winners_in z → pos 0 ≤ℤ nth at i) (below : AreBelow (2 ^ 109) at) where
  len : length z ≡ m.bidders
  len = lawful.lengths z win.passed

  high : (i : ℕ) → i < winners_in z → nth at i <ℤ pos (2 ^ 109)
  high i lt = size-below (nth at i) (2 ^ 109) (below i (omega (arith, long)))

  each : (k : ℕ) → k < m.bidders → (pos 0 ≤ℤ of_bidder (for_bidders z at) (suc k)) × (of_bidder (for_bidders z at) (suc k) <ℤ pos (2 ^ 109))
  each k lt = by (cases_Bool (uses z (suc k)))
    where
      by : (uses z (suc k) ≡ true) ⊎ (uses z (suc k) ≡ false) → (pos 0 ≤ℤ of_bidder (for_bidders z at) (suc k))
          × (of_bidder (for_bidders z at) (suc k) <ℤ pos (2 ^ 109))
      by (inl u) = let s = place-of z k (omega (arith, len)) u in let e = at-bidder z at k ∙ s.1.number at in let a = low s.0 s.1.inside in let b =
          high s.0 s.1.inside in (omega (arith, ints), omega (arith, ints))
      by (inr u) = let e = at-bidder z at k ∙ loser-zero z at k u in (omega (arith, ints), omega (arith, ints))

  surplus-small : (j : ℕ) → 0 < j → j ≤ m.bidders → unsigned_abs (of_bidder (surpluses_of m z den (for_bidders z at)) j) ≤ 2 ^ 110
  surplus-small zero q le = absurd (omega arith)
  surplus-small (suc k) q le =
      let own = surpluses-are m z (point_of z den at) (asks-winners m z len den at) in
      let e = own.surpluses k (omega arith) in
      let w = won-low m lawful z win.passed (suc k) q le in
      let p = mul_nonneg den (worth_in m z (suc k)) (omega (arith, ints)) w.0 in
      let r = small-product den (worth_in m z (suc k)) (omega (arith, ints)) dm w.0 (omega (arith, ints, w.1)) in
      let a = each k (omega arith) in
      rw e (abs-of ((den *ℤ worth_in m z (suc k)) -ℤ of_bidder (for_bidders z at) (suc k)) (2 ^ 110) (omega (arith, ints, a.0, a.1))
      (omega (arith, ints, a.0, a.1)))

  -- the point of a turn meets the conditions of the look for a block
  pub can-look : CanLook m z den (for_bidders z at)
  can-look = record {
    asks = asks-winners m z len den at;
    not_negative = λ j q le. each-of j q le;
    winners = omega arith;
    range = let a = ap (λ n. sum_over everyone (of_bidder (for_bidders z at)) n) len in let b = paid-zip z at in let c =
        few-sum (winners_in z) (nth at) (2 ^ 109) high in omega (arith, ints);
    lowered = record {
      bidders = surpluses-length m z den 0 (for_bidders z at) ∙ all-bidders z at ∙ len;
      losers = λ j q le e. lost j q le e;
      den_positive = dp;
      range = whole-range m.bidders (unsigned_abs den) (unsigned_abs (value_of m z)) _ small (den-abs den dp dm)
          (abs-of (value_of m z) (2 ^ 46) (omega (arith, ints)) (let s = worth-low in omega (arith, ints)))
          (abs-sum m.bidders (λ j. unsigned_abs (of_bidder (surpluses_of m z den (for_bidders z at)) j)) (2 ^ 110) surplus-small);
    };
  }
    where
      den-abs : (d : ℤ) → pos 1 ≤ℤ d → d ≤ℤ pos (320 ^ 4) → unsigned_abs d ≤ 320 ^ 4
      den-abs (pos d) a b = omega (arith, ints)
      den-abs (negsuc d) a b = absurd (omega (arith, ints))

      worth-low : pos 0 ≤ℤ value_of m z
      worth-low = worth-nonneg m lawful z win.passed

      each-of : (j : ℕ) → 0 < j → j ≤ m.bidders → pos 0 ≤ℤ of_bidder (for_bidders z at) j
      each-of zero q le = absurd (omega arith)
      each-of (suc k) q le = (each k (omega arith)).0

      lost : (j : ℕ) → 0 < j → j ≤ m.bidders → IsFalse (uses z j) → of_bidder (surpluses_of m z den (for_bidders z at)) j ≡ pos 0
      lost zero q le u = absurd (omega arith)
      lost (suc k) q le u =
          let own = surpluses-are m z (point_of z den at) (asks-winners m z len den at) in
          let e = own.surpluses k (omega arith) in
          let l = own.losers k (omega arith) u in
          let w : worth_in m z (suc k) ≡ pos 0 = unused-worth m lawful z k u in
          let d = ap (λ (t : ℤ). den *ℤ t) w in
          omega (arith, ints)
