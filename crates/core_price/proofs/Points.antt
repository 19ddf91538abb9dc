-- Points that ask nothing of losers, as points with a number for each winner: the answer of a turn is of least sum and nearest
-- among those that meet its rows.
use Rattle.std.specs.Prelude.{◌≡◌, ℕ, zero, suc, ◌-◌, ◌<◌, true, false, List, get_or, length, ℤ, pos, ◌-ℤ◌, ◌*ℤ◌, ◌≤ℤ◌, refl}
use Rattle.std.proofs.Common.{sym, ◌∙◌, ap, arith, subst, ◌⊎◌, inl, inr}
use Rattle.std.proofs.lemmas.Int.{ints}
use Rattle.std.proofs.lemmas.Bool.{cases_Bool}
use Rattle.auction_model.specs.Market.{Market, uses}
use Rattle.auction_model.specs.Lowered.{of_bidder}
use Rattle.auction_model.specs.Prices.{HasLeastSum, IsNearestTo, Point, SamePoint, everyone, paid, share, square_distance, sum_over, weight_of}
use Rattle.far_num.specs.declared.Row.{Row}
use Rattle.nearest_point.specs.Problem.{bounds, coefficients, row_at, share_at, weight_at}
use Rattle.nearest_point.specs.Shown.{IsShownNearest}
use Rattle.projection_laws.specs.Multipliers.{AreFirst, AreSecond, AreShares, SumsTo}
use Rattle.projection_laws.specs.Points.{MeetsRows, SameNumbers, square_distance_to}
use Rattle.projection_laws.proofs.PointLaws.{at_each, least, nearest}
use Rattle.auction_model.proofs.Shares.{share-positive, share-whole}
use Rattle.core_laws.specs.Rows.{Meets}
use Rattle.core_laws.specs.Surplus.{AsksWinnersOnly}
use Rattle.core_laws.specs.Winners.{for_bidders, for_winners, winners_in}
use Rattle.core_laws.proofs.Sums.{over-is}
use Rattle.core_laws.proofs.Winners.{all-bidders, loser-zero, paid-zip, there_and_back}
use Rattle.wide_num.specs.Sums.{nth, total}
use Rattle.core_price.specs.Turns.{point_of}
use Rattle.core_laws.specs.Weights.{CanWeigh, weights_in}
use Rattle.core_price.proofs.Spots.{spot, spot-inside, spot-number}
use Rattle.core_price.proofs.WeightLaws.{sum-spots, weight-is, weights-at}
use Rattle.std.proofs.Math.IntN.{*ℤ-zero}
use Rattle.core_price.proofs.Places.{place-of}

-- a point that asks nothing of losers and meets the rows, with its numbers for winners
pub record MeetsBits (m : Market) (z : List ℕ) (rows : List Row) (q : Point) : Type 0 where
  pub positive : pos 1 ≤ℤ q.den
  pub asks : AsksWinnersOnly m z q
  pub above : (i : ℕ) → i < length rows → Meets z (row_at rows i) q.den (for_winners z q.at)

-- bidder k + 1 pays the number at place k
pub at-bidder : (z : List ℕ) (xs : List ℤ) (k : ℕ) → of_bidder (for_bidders z xs) (suc k) ≡ nth (for_bidders z xs) k
at-bidder z xs k = let b : suc k - 1 ≡ k = omega arith in rw b refl

-- a point for all bidders made of numbers for winners asks nothing of losers
pub asks-winners : (m : Market) (z : List ℕ) → length z ≡ m.bidders → (den : ℤ) (at : List ℤ) → AsksWinnersOnly m z (point_of z den at)
asks-winners m z len den at = record {
  bidders = all-bidders z at ∙ len;
  losers = λ j some inside u. none j some u;
}
  where
    none : (j : ℕ) → 0 < j → uses z j ≡ false → of_bidder (for_bidders z at) j ≡ pos 0
    none zero some u = absurd (omega arith)
    none (suc k) some u = at-bidder z at k ∙ loser-zero z at k u

module _ (m : Market) (z : List ℕ) (len : length z ≡ m.bidders) where
  -- a point that asks nothing of losers is the one made of its numbers for winners
  pub back-of : (q : Point) → AsksWinnersOnly m z q → for_bidders z (for_winners z q.at) ≡ q.at
  back-of q asks = there_and_back z q.at (omega (arith, asks.bidders, len)) (λ k lt e. let b : suc k - 1 ≡ k = omega arith in let h =
      asks.losers (suc k) (omega arith) (omega (arith, len)) e in rw b at h)

  -- the payments of a point made of numbers for winners add up to the sum of these
  pub paid-own : (den : ℤ) (at : List ℤ) → paid m (point_of z den at) ≡ total (winners_in z) (nth at)
  paid-own den at = sym (ap (λ n. sum_over everyone (of_bidder (for_bidders z at)) n) len) ∙ paid-zip z at

  -- the payments of a point that asks nothing of losers add up to the sum of its numbers for winners
  pub paid-asks : (q : Point) → AsksWinnersOnly m z q → paid m q ≡ total (winners_in z) (nth (for_winners z q.at))
  paid-asks q asks = ap (λ l. paid m (record { den = q.den; at = l })) (sym (back-of q asks)) ∙ paid-own q.den (for_winners z q.at)

-- the answer of a turn, its prices being those of the winners
module _ (m : Market) (z : List ℕ) (len : length z ≡ m.bidders) (weights : List ℕ) (weighed : CanWeigh m z weights) (prices : List ℤ)
    (some : length prices ≡ winners_in z) (rows : List Row) (den : ℤ) (at first second : List ℤ)
    (answer : IsShownNearest prices (weights_in z weights) rows den at first second) where
  -- it has first multipliers, with a coordinate for each winner
  pub firsts : AreFirst (winners_in z) (length rows) (coefficients rows) (bounds rows) den (nth at) (nth first)
  firsts = subst (λ w. AreFirst w (length rows) (coefficients rows) (bounds rows) den (nth at) (nth first)) some answer.firsts

  -- at each winner the first multipliers come to den
  pub sums : SumsTo (winners_in z) (length rows) (coefficients rows) den (nth first)
  sums = subst (λ w. SumsTo w (length rows) (coefficients rows) den (nth first)) some answer.sums

  -- it has second multipliers, by the weights of the winners
  pub seconds : AreSecond (winners_in z) (length rows) (coefficients rows) (bounds rows) den (nth at) (nth first) (nth second) (nth prices)
      (weight_at (weights_in z weights))
  seconds = subst (λ w. AreSecond w (length rows) (coefficients rows) (bounds rows) den (nth at) (nth first) (nth second) (nth prices)
      (weight_at (weights_in z weights))) some answer.seconds

  -- it meets the rows, with a coordinate for each winner
  pub meets : MeetsRows (winners_in z) (length rows) (coefficients rows) (bounds rows) den (nth at)
  meets = subst (λ w. MeetsRows w (length rows) (coefficients rows) (bounds rows) den (nth at)) some answer.meets

  numbers-meet : (q : Point) → MeetsBits m z rows q → MeetsRows (winners_in z) (length rows) (coefficients rows) (bounds rows) q.den (nth (for_winners z q.at))
  numbers-meet q h = record { positive = let p = h.positive in omega (arith, ints); above = h.above }

  -- no point that meets the rows and asks nothing of losers has a smaller sum
  pub least-of : HasLeastSum m (MeetsBits m z rows) (point_of z den at)
  least-of q h =
      let l = least (winners_in z) (length rows) (coefficients rows) (bounds rows) den (nth at) (nth first) firsts q.den (nth (for_winners z q.at))
      (numbers-meet q h, at_each (winners_in z) (length rows) (coefficients rows) den (nth at) (nth first) q.den (nth (for_winners z q.at)) sums) in
      let a = ap (λ (t : ℤ). q.den *ℤ t) (paid-own m z len den at) in
      let b = ap (λ (t : ℤ). den *ℤ t) (paid-asks m z len q h.asks) in
      omega (arith, ints)

  module _ (v : ℕ → ℤ) (priced : (k : ℕ) → k < m.bidders → v (suc k) ≡ of_bidder (for_bidders z prices) (suc k)) where
    abbrev square : ℤ → ℤ → ℤ → ℤ
    square d x t = (x -ℤ d *ℤ t) *ℤ (x -ℤ d *ℤ t)

    square-none : (d : ℤ) → square d (pos 0) (pos 0) ≡ pos 0
    square-none d = let e : pos 0 -ℤ d *ℤ pos 0 ≡ pos 0 = omega (arith, ints) in ap (λ (x : ℤ). x *ℤ x) e

    -- what bidder k + 1 counts
    abbrev term : ℤ → List ℤ → ℕ → ℤ
    term d xs k = share (weight_of weights (suc k)) *ℤ ((of_bidder (for_bidders z xs) (suc k) -ℤ d *ℤ v (suc k)) *ℤ
        (of_bidder (for_bidders z xs) (suc k) -ℤ d *ℤ v (suc k)))

    won-term : (d : ℤ) (xs : List ℤ) (i : ℕ) → i < winners_in z → term d xs (spot z i) ≡ share_at (weights_in z weights) i *ℤ square d (nth xs i) (nth prices i)
    won-term d xs i lt =
        let inside = spot-inside z i lt in
        let w : weight_of weights (suc (spot z i)) ≡ get_or (weights_in z weights) i 0 = weight-is weights (spot z i) ∙ sym (weights-at z weights i lt) in
        let x : of_bidder (for_bidders z xs) (suc (spot z i)) ≡ nth xs i = at-bidder z xs (spot z i) ∙ spot-number z i xs lt in
        let p : v (suc (spot z i)) ≡ nth prices i = priced (spot z i) (omega (arith, inside, len)) ∙ at-bidder z prices (spot z i)
        ∙ spot-number z i prices lt in
        ap (λ n. share n *ℤ square d (of_bidder (for_bidders z xs) (suc (spot z i))) (v (suc (spot z i)))) w
        ∙ ap (λ (t : ℤ). share_at (weights_in z weights) i *ℤ square d t (v (suc (spot z i)))) x
        ∙ ap (λ (t : ℤ). share_at (weights_in z weights) i *ℤ square d (nth xs i) t) p

    lost-term : (d : ℤ) (xs : List ℤ) (k : ℕ) → k < length z → uses z (suc k) ≡ false → term d xs k ≡ pos 0
    lost-term d xs k lt loses =
        let x : of_bidder (for_bidders z xs) (suc k) ≡ pos 0 = at-bidder z xs k ∙ loser-zero z xs k loses in
        let p : v (suc k) ≡ pos 0 = priced k (omega (arith, lt, len)) ∙ at-bidder z prices k ∙ loser-zero z prices k loses in
        ap (λ (t : ℤ). share (weight_of weights (suc k)) *ℤ square d t (v (suc k))) x
        ∙ ap (λ (t : ℤ). share (weight_of weights (suc k)) *ℤ square d (pos 0) t) p
        ∙ ap (λ (t : ℤ). share (weight_of weights (suc k)) *ℤ t) (square-none d)
        ∙ *ℤ-zero (share (weight_of weights (suc k)))

    square-is : (d : ℤ) (xs : List ℤ) → square_distance m (weight_of weights) v (point_of z d xs) ≡ square_distance_to (winners_in z) (share_at (weights_in z weights))
        (nth prices) d (nth xs)
    square-is d xs =
        over-is everyone (λ j. share (weight_of weights j) *ℤ ((of_bidder (for_bidders z xs) j -ℤ d *ℤ v j) *ℤ (of_bidder (for_bidders z xs) j -ℤ d *ℤ v j)))
        m.bidders
        ∙ sym (ap (λ n. total n (term d xs)) len)
        ∙ sum-spots z (term d xs) (λ i. share_at (weights_in z weights) i *ℤ square d (nth xs i) (nth prices i)) (won-term d xs) (lost-term d xs)

    -- numbers of winners that are the same make the same point
    same-of : (q : Point) → AsksWinnersOnly m z q → SameNumbers (winners_in z) den (nth at) q.den (nth (for_winners z q.at)) → SamePoint m (point_of z den at) q
    same-of q asks same zero some inside = absurd (omega arith)
    same-of q asks same (suc k) some inside = by (cases_Bool (uses z (suc k)))
      where
        xs : List ℤ
        xs = for_winners z q.at

        other-at : of_bidder q.at (suc k) ≡ nth (for_bidders z (for_winners z q.at)) k
        other-at = ap (λ l. of_bidder l (suc k)) (sym (back-of m z len q asks)) ∙ at-bidder z (for_winners z q.at) k

        by : (uses z (suc k) ≡ true) ⊎ (uses z (suc k) ≡ false) → q.den *ℤ of_bidder (for_bidders z at) (suc k) ≡ den *ℤ of_bidder q.at (suc k)
        by (inl u) =
            let s = place-of z k (omega (arith, len)) u in
            let x = ap (λ (t : ℤ). q.den *ℤ t) (at-bidder z at k ∙ s.1.number at) in
            let y = ap (λ (t : ℤ). den *ℤ t) (other-at ∙ s.1.number (for_winners z q.at)) in
            x ∙ sym (same s.0 s.1.inside) ∙ sym y
        by (inr u) =
            let x = ap (λ (t : ℤ). q.den *ℤ t) (at-bidder z at k ∙ loser-zero z at k u) in
            let y = ap (λ (t : ℤ). den *ℤ t) (other-at ∙ loser-zero z (for_winners z q.at) k u) in
            omega (arith, ints)

    shares : AreShares (winners_in z) (pos 232792560) (share_at (weights_in z weights)) (weight_at (weights_in z weights))
    shares = record {
      not_negative = omega (arith, ints);
      positive = λ j lt. share-positive (get_or (weights_in z weights) j 0) (weighed.own.some j lt) (weighed.own.most j lt);
      whole = λ j lt. share-whole (get_or (weights_in z weights) j 0) (weighed.own.some j lt) (weighed.own.most j lt);
    }

    -- every other such point of the same sum is farther from the prices by the weights
    pub nearest-of : IsNearestTo m (weight_of weights) v (MeetsBits m z rows) (point_of z den at)
    nearest-of q h same other =
        let xs : ℕ → ℤ = nth (for_winners z q.at) in
        let a = ap (λ (t : ℤ). q.den *ℤ t) (paid-own m z len den at) in
        let b = ap (λ (t : ℤ). den *ℤ t) (paid-asks m z len q h.asks) in
        let n = nearest (winners_in z) (length rows) (coefficients rows) (bounds rows) den (nth at) (nth first) (nth second) (nth prices)
        (weight_at (weights_in z weights)) (pos 232792560) (share_at (weights_in z weights)) firsts seconds shares
        q.den xs (numbers-meet q h, at_each (winners_in z) (length rows) (coefficients rows) den (nth at) (nth first) q.den xs sums) (omega (arith, ints))
        (λ all. other (same-of q h.asks all)) in
        let s = square-is den at in
        let t : square_distance m (weight_of weights) v q ≡ square_distance_to (winners_in z) (share_at (weights_in z weights)) (nth prices) q.den xs =
        ap (λ l. square_distance m (weight_of weights) v (record { den = q.den; at = l })) (sym (back-of m z len q h.asks))
        ∙ square-is q.den (for_winners z q.at) in
        let s' = ap (λ (x : ℤ). (q.den *ℤ q.den) *ℤ x) s in
        let t' = ap (λ (x : ℤ). (den *ℤ den) *ℤ x) t in
        omega (arith, ints)
