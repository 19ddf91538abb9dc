-- The clauses of `nearest` from what the search found.
use Rattle.std.proofs.Common.{◌≡◌, ℕ, zero, suc, ◌*◌, ◌^◌, ◌<◌, ◌≤◌, arith, refl, ap, ◌∙◌, List, [], length, slice_index_or, unsigned_abs}
use Rattle.std.specs.Prelude.{ℤ, pos, negsuc, ◌*ℤ◌, ◌≤ℤ◌, ◌<ℤ◌}
use Rattle.std.proofs.lemmas.Int.{ints}
use Rattle.far_num.specs.Members.{holds}
use Rattle.far_num.specs.declared.Row.{Row}
use Rattle.wide_num.specs.Sums.{dot, nth, total}
use Rattle.std.proofs.lemmas.Nat.{mul-le}
use Rattle.projection_laws.proofs.Order.{mul_nonneg}
use Rattle.projection_laws.proofs.Sums.{term-le}
use Rattle.projection_laws.specs.Points.{IsNearestTo, HasLeastSum, MeetsRows}
use Rattle.projection_laws.specs.Multipliers.{AreShares}
use Rattle.projection_laws.proofs.PointLaws.{at_each, least, nearest}
use Rattle.auction_model.proofs.Shares.{share-positive, share-whole}
use Rattle.nearest_point.specs.declared.settle.Held.{Held}
use Rattle.nearest_point.specs.Numbers.{AreBelow, large, place, spread}
use Rattle.auction_model.specs.Prices.{AreWeights}
use Rattle.nearest_point.specs.Problem.{AreBounds, HasMembers, HasSingles, bounds, coefficients, row_at, share_at, weight_at}
use Rattle.nearest_point.specs.Found.{HasParts, IsNear, IsOwed}
use Rattle.nearest_point.proofs.Answer.{Answer, answer}
use Rattle.nearest_point.proofs.Bits.{holds_nonneg, dot_single, met_by_all}
use Rattle.nearest_point.proofs.Vectors.{none_independent, independent_le}

-- each coordinate has a positive weight
pub have_weights : (m : ℕ) (weights : List ℕ) → AreWeights m weights → (j : ℕ) → j < m → pos 0 <ℤ weight_at weights j
have_weights m weights h j lt = let e = h.some j lt in omega (arith, ints)

-- at the start no row is forced, and the point with the greatest bound in each coordinate meets all rows
pub owed_top : (target : List ℤ) (rows : List Row) → HasMembers (length target) rows → AreBounds rows → IsOwed target rows [] 0
owed_top target rows members c = (
  pos 1,
  (
    (λ j. pos (2 ^ 46)),
    record {
      positive = omega (arith, ints);
      tight = λ i lt. absurd (omega arith);
      meets = λ k ge lt. (let m = members k lt in met_by_all (length target) (row_at rows k).members (pos (2 ^ 46)) (bounds rows k) m.0 m.1
          (omega (arith, ints)) (c.small k lt));
      independent = none_independent (length target) (λ i. coefficients rows (place [] i));
    },
  ),
)

below_large : (x : ℤ) (limit : ℕ) → unsigned_abs x < limit → limit ≤ 2 ^ 120 → x <ℤ large
below_large x limit h le = omega (arith, ints)

-- the answer over the multipliers by row
pub answer_of : (target : List ℤ) (weights : List ℕ) (rows : List Row) → AreWeights (length target) weights → HasSingles (length target) rows → AreBounds rows
    → (h : Held) → IsNear target weights rows [] 0 h → HasParts target weights rows h
    → Answer (length target) (length rows) (coefficients rows) (bounds rows) (nth target) (weight_at weights) h.den (nth h.near.items)
    (spread (length h.rows.items) (place h.rows.items) (nth h.first.items)) (spread (length h.rows.items) (place h.rows.items) (nth h.second.items))
answer_of target weights rows weighed singles c h near parts =
    answer (length target) (length rows) (coefficients rows) (bounds rows) (nth target) (weight_at weights) (have_weights (length target) weights weighed)
    (λ i j. holds_nonneg (row_at rows i).members j) single large (omega (arith, ints)) h.rows.items h.den (nth h.far.items) (nth h.near.items)
    (nth h.first.items) (nth h.second.items)
    (λ j lt. below_large (nth h.near.items j) (2 ^ 113) (parts.small_near j (let e = parts.long_near in omega arith)) (omega arith))
    (λ i lt. below_large (nth h.second.items i) (2 ^ 106) (parts.small_second i (let e = parts.long_second in omega arith)) (omega arith))
    parts.parts near (independent_le (length target) (length h.rows.items) (λ i. coefficients rows (place h.rows.items i)) near.independent)
  where
    single : (j : ℕ) → j < length target → (k : ℕ) × (k < length rows) × (pos 0 ≤ℤ bounds rows k)
        × ((y : ℕ → ℤ) → dot (length target) (coefficients rows k) y ≡ y j)
    single j lt = go (singles j lt)
      where
        go : (i : ℕ) × (i < length rows) × ((row_at rows i).members ≡ 2 ^ j) → (k : ℕ) × (k < length rows) × (pos 0 ≤ℤ bounds rows k)
            × ((y : ℕ → ℤ) → dot (length target) (coefficients rows k) y ≡ y j)
        go (i, li, e) = (i, li, c.not_negative i li, λ y. ap (λ (t : ℕ). dot (length target) (holds t) y) e ∙ dot_single (length target) j y lt)

-- an answer's point has the least sum of all points that meet the rows
pub has_least_sum : (target : List ℤ) (rows : List Row) (weight : ℕ → ℤ) (den : ℤ) (point first second : ℕ → ℤ)
    → Answer (length target) (length rows) (coefficients rows) (bounds rows) (nth target) weight den point first second
    → HasLeastSum (length target) (MeetsRows (length target) (length rows) (coefficients rows) (bounds rows)) den point
has_least_sum target rows weight den point first second h e x k =
    least (length target) (length rows) (coefficients rows) (bounds rows) den point first h.firsts e x
    (k, at_each (length target) (length rows) (coefficients rows) den point first e x h.sums)

-- no number of the point is above the sum of the point with the greatest bound in each coordinate
pub below_top : (target : List ℤ) (rows : List Row) (weight : ℕ → ℤ) → length target ≤ 6 → HasMembers (length target) rows → HasSingles (length target) rows
    → AreBounds rows
    → (den : ℤ) (point : List ℤ) (first second : ℕ → ℤ) → length point ≡ length target → den ≤ℤ pos (320 ^ 4)
    → Answer (length target) (length rows) (coefficients rows) (bounds rows) (nth target) weight den (nth point) first second
    → AreBelow (2 ^ 109) point
below_top target rows weight few members singles c den point first second long small h =
    λ j lt. within (nth point j) (total (length target) (nth point)) (at_least j (let e = long in omega arith))
    (term-le (length target) (nth point) at_least j (let e = long in omega arith)) sum
  where
    at_least : (j : ℕ) → j < length target → pos 0 ≤ℤ nth point j
    at_least j lt = go (singles j lt)
      where
        go : (i : ℕ) × (i < length rows) × ((row_at rows i).members ≡ 2 ^ j) → pos 0 ≤ℤ nth point j
        go (i, li, e) =
            let above = h.meets.above i li in
            let is : dot (length target) (coefficients rows i) (nth point) ≡ nth point j = ap (λ (t : ℕ). dot (length target) (holds t) (nth point)) e
            ∙ dot_single (length target) j (nth point) lt in
            let low : pos 0 ≤ℤ (den *ℤ bounds rows i) = (let p = h.meets.positive in mul_nonneg den (bounds rows i) (omega (arith, ints))
            (c.not_negative i li)) in
            omega (arith, ints)

    top : (k : ℕ) → total k (λ j. pos (2 ^ 46)) ≡ pos (k * 2 ^ 46)
    top zero = refl
    top (suc k) = let e = top k in omega (arith, ints)

    sum : total (length target) (nth point) ≤ℤ pos (320 ^ 4 * (6 * 2 ^ 46))
    sum =
        let l = has_least_sum target rows weight den (nth point) first second h (pos 1) (λ j. pos (2 ^ 46)) (record {
          positive = omega (arith, ints);
          above = λ k lt. (let m = members k lt in met_by_all (length target) (row_at rows k).members (pos (2 ^ 46)) (bounds rows k) m.0 m.1
              (omega (arith, ints)) (c.small k lt));
        }) in
        let t : den *ℤ total (length target) (λ j. pos (2 ^ 46)) ≡ den *ℤ pos (length target * 2 ^ 46) = ap (λ (z : ℤ). den *ℤ z) (top (length target)) in
        let p = h.meets.positive in
        let m = product_le den (length target * 2 ^ 46) (320 ^ 4) (6 * 2 ^ 46) (omega (arith, ints)) small (omega (arith, few)) in
        omega (arith, ints)
      where
        product_le : (d : ℤ) (n a b : ℕ) → pos 0 ≤ℤ d → d ≤ℤ pos a → n ≤ b → (d *ℤ pos n) ≤ℤ pos (a * b)
        product_le (pos x) n a b p q r = let m = mul-le x n a b (omega (arith, ints)) r in omega (arith, ints)
        product_le (negsuc x) n a b p q r = absurd (omega (arith, ints))

    within : (x s : ℤ) → pos 0 ≤ℤ x → x ≤ℤ s → s ≤ℤ pos (320 ^ 4 * (6 * 2 ^ 46)) → unsigned_abs x < 2 ^ 109
    within x s p q r = omega (arith, ints)

-- an answer's point is nearer to the target than any other of its sum that meets the rows
pub is_nearest : (target : List ℤ) (weights : List ℕ) (rows : List Row) → AreWeights (length target) weights → (den : ℤ) (point first second : ℕ → ℤ)
    → Answer (length target) (length rows) (coefficients rows) (bounds rows) (nth target) (weight_at weights) den point first second
    → IsNearestTo (length target) (share_at weights) (nth target) (MeetsRows (length target) (length rows) (coefficients rows) (bounds rows)) den point
is_nearest target weights rows weighed den point first second h e x k =
    nearest (length target) (length rows) (coefficients rows) (bounds rows) den point first second (nth target) (weight_at weights) (pos 232792560)
    (share_at weights)
    h.firsts h.seconds shares e x (k, at_each (length target) (length rows) (coefficients rows) den point first e x h.sums)
  where
    shares : AreShares (length target) (pos 232792560) (share_at weights) (weight_at weights)
    shares = record {
      not_negative = omega (arith, ints);
      positive = λ j lt. share-positive (slice_index_or weights j 0) (weighed.some j lt) (weighed.most j lt);
      whole = λ j lt. share-whole (slice_index_or weights j 0) (weighed.some j lt) (weighed.most j lt);
    }

-- equal lists of rows and multipliers give each row the same
pub spread_same : (r₁ r₂ : List ℕ) (l₁ l₂ : List ℤ) (q : ℕ) → r₁ ≡ r₂ → l₁ ≡ l₂ → spread (length r₁) (place r₁) (nth l₁) q ≡ spread (length r₂) (place r₂)
    (nth l₂) q
spread_same r₁ r₂ l₁ l₂ q e f = ap (λ (r : List ℕ). spread (length r) (place r) (nth l₁) q) e ∙ ap (λ (l : List ℤ). spread (length r₂) (place r₂) (nth l) q) f

-- with at most six coordinates, a point found with no row forced has at most six rows
pub few_rows : (target : List ℤ) (weights : List ℕ) (rows : List Row) (h : Held) → IsNear target weights rows [] 0 h → length target ≤ 6
    → length h.rows.items ≤ 6
few_rows target weights rows h near six = let le = independent_le (length target) (length h.rows.items)
    (λ i. coefficients rows (place h.rows.items i)) near.independent in omega arith
