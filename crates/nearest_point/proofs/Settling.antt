-- The system of the forced rows, and the point that its solution gives.
use Rattle.std.proofs.Common.{◌≡◌, ℕ, ◌+◌, ◌^◌, ◌<◌, refl, sym, arith, ap, ◌∙◌, subst, List, [], ◌∷◌, length, to_z, of_z}
use Rattle.std.specs.Int.{w128}
use Rattle.std.specs.Prelude.{ℤ, pos, ◌+ℤ◌, ◌-ℤ◌, ◌*ℤ◌, ◌<ℤ◌}
use Rattle.std.proofs.lemmas.Int.{ints}
use Rattle.far_num.specs.Pairs.{far_at, near_at}
use Rattle.far_num.specs.declared.Far.{Far}
use Rattle.far_num.specs.declared.Row.{Row}
use Rattle.lin_solve.specs.Matrix.{row}
use Rattle.lin_solve.specs.Solved.{IsAnswer, IsDependence, IsOneSolution, IsSmallAnswer, Satisfies}
use Rattle.lin_solve.specs.declared.solved.Solved.{Solved as Answer}
use Rattle.lin_solve.specs.declared.solved.Solved.TheVariants.{One, Dependent}
use Rattle.wide_num.specs.Sums.{dot, nth, total}
use Rattle.wide_num.proofs.Sums.{dot-same, total-add, total-same, total-zero}
use Rattle.wide_num.proofs.Ints.{mul-zero_cases}
use Rattle.projection_laws.proofs.PointLaws.{times_zero}
use Rattle.projection_laws.proofs.Ring.{var, add, mul, ring}
use Rattle.nearest_point.specs.declared.settle.Held.{Held}
use Rattle.nearest_point.specs.declared.settle.Multipliers.{Multipliers}
use Rattle.nearest_point.specs.Numbers.{AreBelow, at_t, large, place}
use Rattle.auction_model.specs.Ones.{AreOnes}
use Rattle.nearest_point.specs.Problem.{bounds, coefficients, weight_at}
use Rattle.nearest_point.specs.Search.{ByParts, Independent, Solved, gram}
use Rattle.nearest_point.specs.Found.{AreMultipliers, AreWithin, HasParts, IsLowered, IsNear, IsPart, Solves, common, row_of}
use Rattle.nearest_point.proofs.Parts.{dot-at_t, settled, solved-at_t}
use Rattle.nearest_point.proofs.Steps.{near_start}
use Rattle.nearest_point.proofs.Vectors.{gram_times, never_dependent}

-- what common members weigh by the lowered target is what they weigh by the weights
pub gram_is : (m : ℕ) (a b : ℕ → ℤ) (weights : List ℕ) (lowered : List ℤ) → IsLowered weights lowered → length lowered ≡ m
    → common m a b (nth lowered) ≡ total m (λ j. a j *ℤ (weight_at weights j *ℤ b j))
gram_is m a b weights lowered h len = total-same m (λ j. a j *ℤ ((pos 0 -ℤ nth lowered j) *ℤ b j)) (λ j. a j *ℤ (weight_at weights j *ℤ b j))
    (λ j lt. ap (λ (z : ℤ). a j *ℤ (z *ℤ b j)) (let e = h.is j (omega arith) in let f : pos 0 -ℤ nth lowered j ≡ weight_at weights j = omega (arith, ints) in
    f))

-- the matrix has a line for each forced row, and its entries are what common members weigh
pub record IsGram (m n : ℕ) (a : ℕ → ℕ → ℤ) (weight : ℕ → ℤ) (matrix : List (List ℤ)) : Type 0 where
  pub long : length matrix ≡ n
  pub entries : (i k : ℕ) → i < n → k < n → row matrix i k ≡ gram m a weight i k

-- independent rows have no dependence
no_dependence : (m n : ℕ) (a : ℕ → ℕ → ℤ) (weight : ℕ → ℤ) → ((j : ℕ) → j < m → pos 0 <ℤ weight j) → (matrix : List (List ℤ)) (v : List ℤ)
    → IsGram m n a weight matrix → Independent m n a → IsDependence matrix v → ⊥
no_dependence m n a weight wp matrix v g ind d =
    d.apart (never_dependent m n a weight (nth v) wp ind (λ i lt.
    total-same n (λ k. gram m a weight i k *ℤ nth v k) (λ k. row matrix i k *ℤ nth v k) (λ k lk. ap (λ (z : ℤ). z *ℤ nth v k) (sym (g.entries i k lt lk)))
    ∙ subst (λ (t : ℕ). dot t (row matrix i) (nth v) ≡ pos 0) g.long (d.zero i (let e = g.long in omega arith)))
    d.place (let e = g.long in let b = d.below in omega arith))

-- for independent rows the system is never answered with a dependence
pub never : (m n : ℕ) (a : ℕ → ℕ → ℤ) (weight : ℕ → ℤ) → ((j : ℕ) → j < m → pos 0 <ℤ weight j) → (matrix : List (List ℤ)) (v : List ℤ) (fars nears : ℕ → ℤ)
    (s : Answer)
    → IsGram m n a weight matrix → Independent m n a → IsAnswer matrix fars nears s → s ≡ Dependent v → ⊥
never m n a weight wp matrix v fars nears s g ind answer e = no_dependence m n a weight wp matrix v g ind (subst (IsAnswer matrix fars nears) e answer)

-- rows whose system has one solution are independent: with a combination that is 0 everywhere another solution could be had
independent_by : (m n : ℕ) (a : ℕ → ℕ → ℤ) (weight : ℕ → ℤ) (matrix : List (List ℤ)) (fars nears : ℕ → ℤ) (den : ℤ) (values : List Far)
    → IsGram m n a weight matrix → IsOneSolution matrix fars nears den values → Independent m n a
independent_by m n a weight matrix fars nears den values g one = record { only_zero = none }
  where
    none : (c : ℕ → ℤ) → ((j : ℕ) → j < m → total n (λ i. c i *ℤ a i j) ≡ pos 0) → (i : ℕ) → i < n → c i ≡ pos 0
    none c z i lt =
        let x : ℕ → ℤ = far_at values in
        let sent : (k : ℕ) → k < n → dot n (row matrix k) c ≡ pos 0 = λ k lk.
        total-same n (λ q. row matrix k q *ℤ c q) (λ q. gram m a weight k q *ℤ c q) (λ q lq. ap (λ (t : ℤ). t *ℤ c q) (g.entries k q lk lq))
        ∙ gram_times m n a weight c k
        ∙ total-zero m (λ j. a k j *ℤ (weight j *ℤ total n (λ q. c q *ℤ a q j)))
        (λ j lj. times_zero (a k j) (weight j *ℤ total n (λ q. c q *ℤ a q j)) (times_zero (weight j) (total n (λ q. c q *ℤ a q j)) (z j lj))) in
        let both : Satisfies matrix (λ q. x q +ℤ c q) den fars = λ k lk.
        subst (λ (t : ℕ). dot t (row matrix k) (λ q. x q +ℤ c q) ≡ den *ℤ fars k) (sym g.long)
        (total-same n (λ q. row matrix k q *ℤ (x q +ℤ c q)) (λ q. row matrix k q *ℤ x q +ℤ row matrix k q *ℤ c q)
        (λ q lq. ring (row matrix k q ∷ x q ∷ c q ∷ []) (mul (var 0) (add (var 1) (var 2))) (add (mul (var 0) (var 1)) (mul (var 0) (var 2))) refl)
        ∙ total-add n (λ q. row matrix k q *ℤ x q) (λ q. row matrix k q *ℤ c q)
        ∙ (let s = subst (λ (t : ℕ). dot t (row matrix k) x ≡ den *ℤ fars k) g.long (one.far.solves k lk) in
        let o = sent k (let e = g.long in omega arith) in omega (arith, ints))) in
        let same : den *ℤ (x i +ℤ c i) ≡ den *ℤ x i = one.far.only (λ q. x q +ℤ c q) den both i (let e = g.long in omega arith) in
        let apart : den *ℤ (x i +ℤ c i) ≡ den *ℤ x i +ℤ den *ℤ c i = ring (den ∷ x i ∷ c i ∷ []) (mul (var 0) (add (var 1) (var 2)))
        (add (mul (var 0) (var 1)) (mul (var 0) (var 2))) refl in
        let p = one.positive in
        mul-zero_cases den (c i) (omega (arith, ints)) (λ e. absurd (omega (arith, ints)))

-- rows whose system is answered with one solution are independent
pub independent_of : (m n : ℕ) (a : ℕ → ℕ → ℤ) (weight : ℕ → ℤ) (matrix : List (List ℤ)) (fars nears : ℕ → ℤ) (den : ℤ) (values : List Far) (s : Answer)
    → IsGram m n a weight matrix → IsAnswer matrix fars nears s → s ≡ One den values → Independent m n a
independent_of m n a weight matrix fars nears den values s g answer e = independent_by m n a weight matrix fars nears den values g
    (subst (IsAnswer matrix fars nears) e answer)

-- one part of the solution solves the system of the forced rows
solves_part : (m n : ℕ) (a : ℕ → ℕ → ℤ) (weight : ℕ → ℤ) (matrix : List (List ℤ)) (den : ℤ) (x mult target bound right : ℕ → ℤ) → IsGram m n a weight matrix
    → ((k : ℕ) → k < length matrix → dot (length matrix) (row matrix k) x ≡ den *ℤ right k)
    → ((i : ℕ) → i < n → mult i ≡ x i) → ((i : ℕ) → i < n → right i ≡ bound i -ℤ dot m (a i) target)
    → Solves m n a weight den mult target bound
solves_part m n a weight matrix den x mult target bound right g s same r i lt =
    total-same n (λ k. gram m a weight i k *ℤ mult k) (λ k. row matrix i k *ℤ x k)
    (λ k lk. ap (λ (z : ℤ). z *ℤ mult k) (sym (g.entries i k lt lk)) ∙ ap (λ (z : ℤ). row matrix i k *ℤ z) (same k lk))
    ∙ subst (λ (t : ℕ). dot t (row matrix i) x ≡ den *ℤ right i) g.long (s i (let e = g.long in omega arith))
    ∙ ap (λ (z : ℤ). den *ℤ z) (r i lt)

lowered_dot : (m : ℕ) (a : ℕ → ℤ) (weights : List ℕ) (lowered : List ℤ) → IsLowered weights lowered → length lowered ≡ m
    → dot m a (nth lowered) ≡ dot m a (λ j. pos 0 -ℤ weight_at weights j)
lowered_dot m a weights lowered h len = dot-same m a (nth lowered) (λ j. pos 0 -ℤ weight_at weights j) (λ j lt. h.is j (omega arith))

-- what the code reads of a solution
pub record IsRead (values : List Far) (den : ℤ) (f : Multipliers) : Type 0 where
  pub den_is : f.den ≡ den
  pub long_first : length f.first.items ≡ length values
  pub long_second : length f.second.items ≡ length values
  pub first : (i : ℕ) → i < length values → nth f.first.items i ≡ far_at values i
  pub second : (i : ℕ) → i < length values → nth f.second.items i ≡ near_at values i

-- the rows that are forced, and the target lowered by the weights
module _ (target : List ℤ) (weights : List ℕ) (rows : List Row) (forced : List ℕ) (lowered : List ℤ) (low : IsLowered weights lowered)
    (len : length lowered ≡ length target) where
  -- a square of what common members weigh by the lowered target is the matrix of the forced rows
  pub is_gram : (matrix : List (List ℤ)) → length matrix ≡ length forced
      → ((i k : ℕ) → i < length forced → k < length forced
      → row matrix i k ≡ common (length lowered) (row_of rows forced i) (row_of rows forced k) (nth lowered))
      → IsGram (length target) (length forced) (row_of rows forced) (weight_at weights) matrix
  is_gram matrix long all = record {
    long = long;
    entries = λ i k li lk. all i k li lk ∙ ap (λ (t : ℕ). common t (row_of rows forced i) (row_of rows forced k) (nth lowered)) len
        ∙ gram_is (length target) (row_of rows forced i) (row_of rows forced k) weights lowered low len;
  }

  -- the point of solved multipliers, part by part
  pub by_parts : (f : Multipliers) (far near : List ℤ) → AreMultipliers target weights rows forced f
      → IsPart rows forced (weight_at weights) f.den lowered f.first.items far → IsPart rows forced (weight_at weights) f.den target f.second.items near
      → ByParts (length target) (coefficients rows) (bounds rows) (nth target) (weight_at weights) forced f.den (nth far) (nth near) (nth f.first.items)
      (nth f.second.items)
  by_parts f far near h pf pn =
      let m = length target in
      let n = length forced in
      let a = row_of rows forced in
      let w = weight_at weights in
      let sf : Solved m n a f.den (nth far) (nth f.first.items) (λ j. pos 0 -ℤ w j) w = record {
        positive = h.positive;
        at = λ j lt. pf.at j (omega arith) ∙ ap (λ (z : ℤ). f.den *ℤ z +ℤ w j *ℤ total n (λ i. nth f.first.items i *ℤ a i j)) (low.is j (omega arith));
      } in
      let sn : Solved m n a f.den (nth near) (nth f.second.items) (nth target) w = record { positive = h.positive; at = pn.at } in
      record {
        far = sf;
        near = sn;
        tight_far = λ i lt. settled m n a (λ i. pos 0) (λ j. pos 0 -ℤ w j) w f.den (nth f.first.items) (nth far) sf h.far i lt ∙ omega (arith, ints);
        tight_near = λ i lt. settled m n a (λ i. bounds rows (place forced i)) (nth target) w f.den (nth f.second.items) (nth near) sn h.near i lt;
      }

  -- the system of the forced rows
  module _ (matrix : List (List ℤ)) (right values : List Far) (den : ℤ) (f : Multipliers)
      (g : IsGram (length target) (length forced) (row_of rows forced) (weight_at weights) matrix)
      (fars : (i : ℕ) → i < length forced → far_at right i ≡ pos 0 -ℤ dot (length target) (row_of rows forced i) (nth lowered))
      (nears : (i : ℕ) → i < length forced → near_at right i ≡ bounds rows (place forced i) -ℤ dot (length target) (row_of rows forced i) (nth target)) where
    of_one : IsOneSolution matrix (far_at right) (near_at right) den values → IsSmallAnswer (320 ^ 4 + 1) (2 ^ 106) (One den values)
        → (AreOnes (length target) weights → IsSmallAnswer (2 ^ 32) (2 ^ 106) (One den values)) → IsRead values den f
        → AreMultipliers target weights rows forced f
    of_one one small smaller r =
        let m = length target in
        let n = length forced in
        let a = row_of rows forced in
        let w = weight_at weights in
        let d = r.den_is in
        let p = one.positive in
        let q = small.0 in
        let long : length values ≡ n = one.long ∙ g.long in
        record {
          positive = omega (arith, ints);
          small_den = omega (arith, ints);
          ones_den = λ ones. (let s = (smaller ones).0 in omega (arith, ints));
          long_first = r.long_first ∙ long;
          long_second = r.long_second ∙ long;
          far = solves_part m n a w matrix f.den (far_at values) (nth f.first.items) (λ j. pos 0 -ℤ w j) (λ i. pos 0) (far_at right) g
              (λ k lt. one.far.solves k lt ∙ ap (λ (z : ℤ). z *ℤ far_at right k) (sym d)) (λ i lt. r.first i (omega arith))
              (λ i lt. fars i lt ∙ ap (λ (z : ℤ). pos 0 -ℤ z) (lowered_dot m (a i) weights lowered low len));
          near = solves_part m n a w matrix f.den (near_at values) (nth f.second.items) (nth target) (λ i. bounds rows (place forced i)) (near_at right) g
              (λ k lt. one.near.solves k lt ∙ ap (λ (z : ℤ). z *ℤ near_at right k) (sym d)) (λ i lt. r.second i (omega arith)) nears;
          small_first = λ i lt. (let l = r.long_first in let b = (small.1 i (omega arith)).0 in rw (r.first i (omega arith)) b);
          small_second = λ i lt. (let l = r.long_second in let b = (small.1 i (omega arith)).1 in rw (r.second i (omega arith)) b);
        }

    -- the small solution of the system, as it is read, gives the multipliers of the forced rows by parts
    pub multipliers_of : (s : Answer) → IsAnswer matrix (far_at right) (near_at right) s → IsSmallAnswer (320 ^ 4 + 1) (2 ^ 106) s
        → (AreOnes (length target) weights → IsSmallAnswer (2 ^ 32) (2 ^ 106) s) → s ≡ One den values → IsRead values den f
        → AreMultipliers target weights rows forced f
    multipliers_of s answer small smaller e r =
        of_one (subst (IsAnswer matrix (far_at right) (near_at right)) e answer) (subst (IsSmallAnswer (320 ^ 4 + 1) (2 ^ 106)) e small)
        (λ ones. subst (IsSmallAnswer (2 ^ 32) (2 ^ 106)) e (smaller ones)) r

-- what the code holds once it has settled
pub record IsSettled (target : List ℤ) (weights : List ℕ) (rows : List Row) (forced : List ℕ) (lowered : List ℤ) (f : Multipliers) (h : Held) : Type 0 where
  pub low : IsLowered weights lowered
  pub long : length lowered ≡ length target
  pub solved : AreMultipliers target weights rows forced f
  pub far : IsPart rows forced (weight_at weights) f.den lowered f.first.items h.far.items
  pub near : IsPart rows forced (weight_at weights) f.den target f.second.items h.near.items
  pub den_is : h.den ≡ f.den
  pub rows_are : h.rows.items ≡ forced
  pub first_is : h.first.items ≡ f.first.items
  pub second_is : h.second.items ≡ f.second.items

-- what is settled
module _ (target : List ℤ) (weights : List ℕ) (rows : List Row) (forced : List ℕ) (lowered : List ℤ) (f : Multipliers) (h : Held)
    (s : IsSettled target weights rows forced lowered f h) where
  parts : ByParts (length target) (coefficients rows) (bounds rows) (nth target) (weight_at weights) forced f.den (nth h.far.items) (nth h.near.items)
      (nth f.first.items)
      (nth f.second.items)
  parts = by_parts target weights rows forced lowered s.low s.long f h.far.items h.near.items s.solved s.far s.near

  -- with independent forced rows the settled point is right for these with equality, and no row is taken yet
  pub settled_near : Independent (length target) (length forced) (row_of rows forced) → IsNear target weights rows forced (length rows) h
  settled_near ind =
      let m = length target in
      let w = weight_at weights in
      let at : ℕ → ℤ = at_t large (nth h.far.items) (nth h.near.items) in
      let tight : (i : ℕ) → i < length forced → dot m (coefficients rows (place forced i)) at ≡ f.den *ℤ bounds rows (place forced i) =
      λ i lt. dot-at_t m (coefficients rows (place forced i)) large (nth h.far.items) (nth h.near.items)
      ∙ ap (λ (z : ℤ). z *ℤ large +ℤ dot m (coefficients rows (place forced i)) (nth h.near.items)) (parts.tight_far i lt)
      ∙ ap (λ (z : ℤ). pos 0 *ℤ large +ℤ z) (parts.tight_near i lt) ∙ omega (arith, ints) in
      rw (s.rows_are, s.den_is, s.first_is, s.second_is)
      (near_start m (length rows) (coefficients rows) (bounds rows) (at_t large (λ j. pos 0 -ℤ w j) (nth target)) w forced f.den at
      (at_t large (nth f.first.items) (nth f.second.items))
      (solved-at_t m (length forced) (row_of rows forced) f.den large (nth h.far.items) (nth h.near.items) (nth f.first.items) (nth f.second.items)
      (λ j. pos 0 -ℤ w j) (nth target) w
      parts.far parts.near)
      tight ind)

  -- what is settled has its parts and sizes, if forced places are of rows and its point's parts below 2^113
  pub settled_parts : AreWithin forced rows → AreBelow (2 ^ 113) h.far.items → AreBelow (2 ^ 113) h.near.items → HasParts target weights rows h
  settled_parts within far near = record {
    long_far = s.far.long ∙ s.long;
    long_near = s.near.long;
    long_first = ap length s.first_is ∙ s.solved.long_first ∙ sym (ap length s.rows_are);
    long_second = ap length s.second_is ∙ s.solved.long_second ∙ sym (ap length s.rows_are);
    within = subst (λ (l : List ℕ). AreWithin l rows) (sym s.rows_are) within;
    parts = rw (s.rows_are, s.den_is, s.first_is, s.second_is) parts;
    small_den = (let a = s.den_is in let b = s.solved.small_den in omega (arith, ints));
    ones_den = λ ones. (let a = s.den_is in let b = s.solved.ones_den ones in omega (arith, ints));
    small_far = far;
    small_near = near;
    small_first = subst (AreBelow (2 ^ 106)) (sym s.first_is) s.solved.small_first;
    small_second = subst (AreBelow (2 ^ 106)) (sym s.second_is) s.solved.small_second;
  }

-- the denominator of a small solution comes back from its 128 bits
pub den_back : (matrix : List (List ℤ)) (fars nears : ℕ → ℤ) (den : ℤ) (values : List Far) (s : Answer) → IsAnswer matrix fars nears s
    → IsSmallAnswer (320 ^ 4 + 1) (2 ^ 106) s → s ≡ One den values
    → to_z w128 (of_z w128 den) ≡ den
den_back matrix fars nears den values s answer small e =
    let a : IsOneSolution matrix fars nears den values = subst (IsAnswer matrix fars nears) e answer in
    let b : IsSmallAnswer (320 ^ 4 + 1) (2 ^ 106) (One den values) = subst (IsSmallAnswer (320 ^ 4 + 1) (2 ^ 106)) e small in
    let p = a.positive in
    let q = b.0 in
    omega (arith, ints)

-- a part of a point stays one for an equal denominator, target and multipliers
pub part_same : (rows : List Row) (forced : List ℕ) (w : ℕ → ℤ) (d d' : ℤ) (t t' m m' p : List ℤ) → d ≡ d' → t ≡ t' → m ≡ m' → IsPart rows forced w d t m p
    → IsPart rows forced w d' t' m' p
part_same rows forced w d d' t t' m m' p e f g h =
    subst (λ (x : ℤ). IsPart rows forced w x t' m' p) e (subst (λ (x : List ℤ). IsPart rows forced w d x m' p) f
    (subst (λ (x : List ℤ). IsPart rows forced w d t x p) g h))

-- the denominator of the multipliers of forced rows comes back from its 128 bits
pub den_returns : (target : List ℤ) (weights : List ℕ) (rows : List Row) (forced : List ℕ) (f : Multipliers) → AreMultipliers target weights rows forced f
    → to_z w128 (of_z w128 f.den) ≡ f.den
den_returns target weights rows forced f h = let p = h.positive in let q = h.small_den in omega (arith, ints)
