-- First multipliers show, in any market, that no core point has a smaller sum than the payments, and second ones that each other one of
-- their sum is farther from the Vickrey prices.
use Rattle.std.specs.Prelude.{◌≡◌, ℕ, zero, suc, ◌+◌, ◌≤◌, ◌<◌, Bool, false, cond, IsTrue, IsFalse, length, ℤ, pos, ◌-ℤ◌, ◌*ℤ◌, ◌≤ℤ◌, refl, if◌then◌else◌}
use Rattle.std.proofs.Common.{inl, inr, sym, ◌∙◌, ap, arith}
use Rattle.std.proofs.lemmas.Bool.{false≢true, cases_Bool, false_from_ne_true}
use Rattle.std.proofs.lemmas.Int.{ints}
use Rattle.auction_model.specs.Market.{Market, uses}
use Rattle.auction_model.specs.Lowered.{of_bidder}
use Rattle.auction_model.specs.Prices.{AreVickreyPrices, IsCorePoint, IsLeastSum, IsNearest, Point, share, square_distance}
use Rattle.auction_model.proofs.PriceLaws.{vickrey-one}
use Rattle.wide_num.specs.Sums.{dot, total}
use Rattle.wide_num.proofs.Sums.{total-zero}
use Rattle.projection_laws.specs.Points.{SameNumbers, square_distance_to}
use Rattle.projection_laws.specs.Multipliers.{AreFirst, AreSecond, AreShares, SumsToOrStands}
use Rattle.projection_laws.proofs.PointLaws.{least, nearest, times_zero}
use Rattle.core_laws.proofs.Excess.{everyone-is}
use Rattle.cert_grammar.specs.Certificate.{CertValue, is_member, row_of}
use Rattle.cert_soundness.specs.MarketTests.{PaysWithinBids, HasTightRow, ShowsLeastSum, ShowsNearest, vickrey_in}
use Rattle.cert_soundness.specs.MarketPrices.{prices_in}
use Rattle.cert_soundness.specs.Sound.{cert_point}
use Rattle.cert_soundness.proofs.Rows.{coefficient, times_one, holding-is, bound, row-at, tight, meets}

-- the point of a list with a number for each bidder, from 0
abbrev pub from_zero : Point → ℕ → ℤ
from_zero p j = of_bidder p.at (suc j)

abbrev pub first : CertValue → ℕ → ℤ
first c i = (row_of c.rows (suc i)).first

abbrev pub second : CertValue → ℕ → ℤ
second c i = (row_of c.rows (suc i)).second

-- the weight of a coordinate, and its share
abbrev pub weight_from : (ℕ → ℕ) → ℕ → ℤ
weight_from w j = pos (w (suc j))

abbrev pub share_from : (ℕ → ℕ) → ℕ → ℤ
share_from w j = share (w (suc j))

distance-is : (m : Market) (w : ℕ → ℕ) (v : ℕ → ℤ) (p : Point) → square_distance m w v p ≡ square_distance_to m.bidders (share_from w) (λ j. v (suc j)) p.den
    (from_zero p)
distance-is m w v p = everyone-is (λ j. share (w j) *ℤ ((of_bidder p.at j -ℤ (p.den *ℤ v j)) *ℤ (of_bidder p.at j -ℤ (p.den *ℤ v j)))) m.bidders

-- points that are the same from 1 are the same from 0
same-from_zero : (m : Market) (p q : Point) → SameNumbers m.bidders p.den (from_zero p) q.den (from_zero q) → (j : ℕ) → 0 < j → j ≤ m.bidders
    → q.den *ℤ of_bidder p.at j ≡ p.den *ℤ of_bidder q.at j
same-from_zero m p q same zero some le = absurd (omega (arith, some))
same-from_zero m p q same (suc j) some le = sym (same j (omega (arith, le)))

module _ (m : Market) (w : ℕ → ℕ) (own : AreShares m.bidders (pos 232792560) (share_from w) (weight_from w)) (c : CertValue) (den_positive : pos 1 ≤ℤ c.den)
    (pays : (place : ℕ) → PaysWithinBids m c place) (rows : (place : ℕ) → HasTightRow m c place) (least_shown : (place : ℕ) → ShowsLeastSum m c place) where
  firsts : AreFirst m.bidders (length c.rows) (coefficient c.rows) (bound m c) c.den (from_zero (cert_point c)) (first c)
  firsts = record {
    positive = omega (arith, ints, den_positive);
    not_negative = λ i lt. (least_shown (suc i)).sign (omega arith) (omega (arith, lt));
    tight = λ i lt _. tight m c rows i lt;
  }

  -- a loser pays nothing at any core point
  loser-stands : (q : Point) → IsCorePoint m c.choice q → (j : ℕ) → j < m.bidders → IsFalse (uses c.choice (suc j))
      → c.den *ℤ of_bidder q.at (suc j) ≡ q.den *ℤ of_bidder c.pay (suc j)
  loser-stands q point j lt loses =
      times_zero c.den (of_bidder q.at (suc j)) (point.losers (suc j) (omega arith) (omega (arith, lt)) loses)
      ∙ sym (times_zero q.den (of_bidder c.pay (suc j)) ((pays (suc j)).loser (omega arith) (omega (arith, lt)) loses))

  sums : (q : Point) → IsCorePoint m c.choice q → SumsToOrStands m.bidders (length c.rows) (coefficient c.rows) c.den (from_zero (cert_point c))
      (first c) q.den (from_zero q)
  sums q point j lt = elim (cases_Bool (uses c.choice (suc j))) [
    | inl wins ↦ inl (sym (holding-is c.rows j (λ row. row.first) (length c.rows)) ∙ (least_shown (length c.rows + suc j)).columns (suc j) (omega arith)
        (omega (arith, lt)) refl wins)
    | inr loses ↦ inr (loser-stands q point j lt loses)
  ]

  -- no core point has a smaller sum than the payments
  pub least_sum : IsLeastSum m c.choice (cert_point c)
  least_sum q point =
      let n = m.bidders in
      let l = least n (length c.rows) (coefficient c.rows) (bound m c) c.den (from_zero (cert_point c)) (first c) firsts q.den (from_zero q)
      (meets m c rows q point, sums q point) in
      let a = ap (λ (z : ℤ). q.den *ℤ z) (everyone-is (of_bidder c.pay) n) in
      let b = ap (λ (z : ℤ). c.den *ℤ z) (everyone-is (of_bidder q.at) n) in
      omega (arith, ints, l, a, b)

  -- the Vickrey prices are those of the parts
  module _ (by_parts : AreVickreyPrices m c.choice (prices_in m c)) (v : ℕ → ℤ) (prices : AreVickreyPrices m c.choice v)
      (nearest_shown : (place : ℕ) → ShowsNearest m w c place) where
    won_at : (j : ℕ) → 0 < j → j ≤ m.bidders → IsTrue (uses c.choice j) → v j ≡ vickrey_in m c j
    won_at j some le wins = vickrey-one m c.choice j (v j) (prices_in m c j) (prices j some le) (by_parts j some le)
        ∙ ap (λ (b : Bool). if b then vickrey_in m c j else pos 0) wins

    lost_at : (j : ℕ) → 0 < j → j ≤ m.bidders → IsFalse (uses c.choice j) → v j ≡ pos 0
    lost_at j some le loses = (prices j some le).1 loses

    second-winner : (j : ℕ) → j < m.bidders → IsTrue (uses c.choice (suc j)) → weight_from w j *ℤ dot (length c.rows) (second c)
        (λ i. coefficient c.rows i j) ≡ of_bidder c.pay (suc j) -ℤ c.den *ℤ v (suc j)
    second-winner j lt wins =
        let k = (nearest_shown (length c.rows + suc j)).columns (suc j) (omega arith) (omega (arith, lt)) refl wins in
        let s = ap (λ (z : ℤ). weight_from w j *ℤ z) (holding-is c.rows j (λ row. row.second) (length c.rows)) in
        let p : c.den *ℤ v (suc j) ≡ c.den *ℤ vickrey_in m c (suc j) = ap (λ (z : ℤ). c.den *ℤ z) (won_at (suc j) (omega arith) (omega (arith, lt)) wins) in
        omega (arith, ints, k, s, p)

    second-loser : (j : ℕ) → j < m.bidders → IsFalse (uses c.choice (suc j)) → weight_from w j *ℤ dot (length c.rows) (second c)
        (λ i. coefficient c.rows i j) ≡ of_bidder c.pay (suc j) -ℤ c.den *ℤ v (suc j)
    second-loser j lt loses =
        let n = (pays (suc j)).loser (omega arith) (omega (arith, lt)) loses in
        let p = times_zero c.den (v (suc j)) (lost_at (suc j) (omega arith) (omega (arith, lt)) loses) in
        let s = times_zero (weight_from w j) (dot (length c.rows) (second c) (λ i. coefficient c.rows i j))
        (total-zero (length c.rows) (λ i. second c i *ℤ coefficient c.rows i j)
        (λ i li. times_one (is_member (row_of c.rows (suc i)).members (suc j)) (second c i) ∙ ap (λ (b : Bool). cond b (second c i) (pos 0))
        (not_held i li))) in
        omega (arith, ints, n, p, s)
      where
        not_held : (i : ℕ) → i < length c.rows → is_member (row_of c.rows (suc i)).members (suc j) ≡ false
        not_held i li = false_from_ne_true (is_member (row_of c.rows (suc i)).members (suc j))
            (λ member. false≢true (sym loses ∙ (row-at m c rows i li).winners (suc j) member))

    seconds : AreSecond m.bidders (length c.rows) (coefficient c.rows) (bound m c) c.den (from_zero (cert_point c)) (first c) (second c) (λ j. v (suc j))
        (weight_from w)
    seconds = record {
      sign = λ i lt z. elim ((nearest_shown (suc i)).sign (omega arith) (omega (arith, lt))) [
        | inl above ↦ absurd (omega (arith, ints, above, z))
        | inr fine ↦ fine
      ];
      tight = λ i lt _. tight m c rows i lt;
      sums = λ j lt. elim (cases_Bool (uses c.choice (suc j))) [
        | inl wins ↦ second-winner j lt wins
        | inr loses ↦ second-loser j lt loses
      ];
    }

    -- each other core point of the same sum is farther from the Vickrey prices than the payments
    pub nearest_point : IsNearest m w c.choice v (cert_point c)
    nearest_point q point same other =
        let n = m.bidders in
        let p = cert_point c in
        let totals : c.den *ℤ total n (from_zero q) ≡ q.den *ℤ total n (from_zero p) =
        ap (λ (z : ℤ). c.den *ℤ z) (sym (everyone-is (of_bidder q.at) n)) ∙ sym same ∙ ap (λ (z : ℤ). q.den *ℤ z) (everyone-is (of_bidder c.pay) n) in
        let far = nearest n (length c.rows) (coefficient c.rows) (bound m c) c.den (from_zero p) (first c) (second c) (λ j. v (suc j)) (weight_from w)
        (pos 232792560) (share_from w) firsts seconds own q.den (from_zero q)
        (meets m c rows q point, sums q point) totals (λ all. other (same-from_zero m p q all)) in
        let a = ap (λ (z : ℤ). (q.den *ℤ q.den) *ℤ z) (distance-is m w v p) in
        let b = ap (λ (z : ℤ). (c.den *ℤ c.den) *ℤ z) (distance-is m w v q) in
        omega (arith, ints, far, a, b)
