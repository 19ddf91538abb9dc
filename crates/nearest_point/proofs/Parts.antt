-- Far numbers far * t + near, with one large number for t; the point has no far part; multipliers by row.
use Rattle.std.proofs.Common.{◌≡◌, ℕ, zero, suc, ◌-◌, ◌*◌, ◌<◌, ◌≤◌, arith, refl, sym, ap, ◌∙◌, ◌⊎◌, inl, inr, Bool, true, false, [], ◌∷◌, eqb}
use Rattle.std.specs.Prelude.{ℤ, pos, negsuc, ◌+ℤ◌, ◌*ℤ◌, ◌-ℤ◌, ◌≤ℤ◌, ◌<ℤ◌}
use Rattle.std.proofs.lemmas.Int.{ints, by_lt_z}
use Rattle.std.proofs.lemmas.Bool.Decides.{nat_tests}
use Rattle.wide_num.specs.Sums.{dot, total}
use Rattle.nearest_point.specs.Search.{Solved, gram}
use Rattle.nearest_point.specs.Numbers.{at_t, is_zero, pairs_used, spread, when}
use Rattle.std.proofs.Math.IntN.{*ℤ_comm}
use Rattle.projection_laws.proofs.Ring.{var, con, add, sub, mul, ring}
use Rattle.projection_laws.proofs.Order.{mul_nonneg, mul_positive, zero_or}
use Rattle.wide_num.proofs.Ints.{mul-zero_cases}
use Rattle.wide_num.proofs.Sums.{total-add, total-same, total-scale, total-swap, total-zero}
use Rattle.projection_laws.proofs.Sums.{total-nonneg, term-le}
use Rattle.nearest_point.proofs.Places.{lt_or}
use Rattle.projection_laws.proofs.PointLaws.{times_zero}
use Rattle.nearest_point.proofs.Vectors.{gram_times, zeros_or}

-- the equations of the solver give the point: gram * mult = den * (b - over a target), part by part
pub settled : (m n : ℕ) (a : ℕ → ℕ → ℤ) (b target weight : ℕ → ℤ) (den : ℤ) (mult point : ℕ → ℤ) → Solved m n a den point mult target weight
    → ((i : ℕ) → i < n → total n (λ k. gram m a weight i k *ℤ mult k) ≡ den *ℤ (b i -ℤ dot m (a i) target))
    → (i : ℕ) → i < n → dot m (a i) point ≡ den *ℤ b i
settled m n a b target weight den mult point s eqs i lt =
    let col : ℕ → ℤ = λ j. total n (λ k. mult k *ℤ a k j) in
    total-same m (λ j. a i j *ℤ point j) (λ j. den *ℤ (a i j *ℤ target j) +ℤ a i j *ℤ (weight j *ℤ col j))
    (λ j lj. ap (λ (z : ℤ). a i j *ℤ z) (s.at j lj)
    ∙ ring (a i j ∷ den ∷ target j ∷ weight j ∷ col j ∷ []) (mul (var 0) (add (mul (var 1) (var 2)) (mul (var 3) (var 4))))
    (add (mul (var 1) (mul (var 0) (var 2))) (mul (var 0) (mul (var 3) (var 4)))) refl)
    ∙ total-add m (λ j. den *ℤ (a i j *ℤ target j)) (λ j. a i j *ℤ (weight j *ℤ col j))
    ∙ (let p = total-scale m den (λ j. a i j *ℤ target j) in
    let g = gram_times m n a weight mult i in
    let e = eqs i lt in
    let d : den *ℤ (b i -ℤ dot m (a i) target) ≡ den *ℤ b i -ℤ den *ℤ dot m (a i) target = ring (den ∷ b i ∷ dot m (a i) target ∷ [])
    (mul (var 0) (sub (var 1) (var 2))) (sub (mul (var 0) (var 1)) (mul (var 0) (var 2))) refl in
    omega (arith, ints))

-- what a row has of numbers at t is t times what it has of the far parts plus that of the near parts
pub dot-at_t : (m : ℕ) (a : ℕ → ℤ) (t : ℤ) (far near : ℕ → ℤ) → dot m a (at_t t far near) ≡ dot m a far *ℤ t +ℤ dot m a near
dot-at_t m a t far near =
    total-same m (λ j. a j *ℤ at_t t far near j) (λ j. t *ℤ (a j *ℤ far j) +ℤ a j *ℤ near j)
    (λ j lj. ring (a j ∷ far j ∷ t ∷ near j ∷ []) (mul (var 0) (add (mul (var 1) (var 2)) (var 3)))
    (add (mul (var 2) (mul (var 0) (var 1))) (mul (var 0) (var 3))) refl)
    ∙ total-add m (λ j. t *ℤ (a j *ℤ far j)) (λ j. a j *ℤ near j)
    ∙ (let p = total-scale m t (λ j. a j *ℤ far j) in let c = *ℤ_comm t (dot m a far) in omega (arith, ints))

-- far and near parts that are each solved over one denominator are solved together at t
pub solved-at_t : (m n : ℕ) (a : ℕ → ℕ → ℤ) (den t : ℤ) (pf pn lf ln tf tn weight : ℕ → ℤ) → Solved m n a den pf lf tf weight → Solved m n a den pn ln tn weight
    → Solved m n a den (at_t t pf pn) (at_t t lf ln) (at_t t tf tn) weight
solved-at_t m n a den t pf pn lf ln tf tn weight f g = record {
  positive = f.positive;
  at = λ j lj.
      (let c : total n (λ i. at_t t lf ln i *ℤ a i j) ≡ t *ℤ total n (λ i. lf i *ℤ a i j) +ℤ total n (λ i. ln i *ℤ a i j)
      = total-same n (λ i. at_t t lf ln i *ℤ a i j) (λ i. t *ℤ (lf i *ℤ a i j) +ℤ ln i *ℤ a i j)
      (λ i li. ring (lf i ∷ t ∷ ln i ∷ a i j ∷ []) (mul (add (mul (var 0) (var 1)) (var 2)) (var 3))
      (add (mul (var 1) (mul (var 0) (var 3))) (mul (var 2) (var 3))) refl)
      ∙ total-add n (λ i. t *ℤ (lf i *ℤ a i j)) (λ i. ln i *ℤ a i j)
      ∙ ap (λ (z : ℤ). z +ℤ total n (λ i. ln i *ℤ a i j)) (total-scale n t (λ i. lf i *ℤ a i j)) in
      ap (λ (z : ℤ). z *ℤ t +ℤ pn j) (f.at j lj) ∙ ap (λ (z : ℤ). (den *ℤ tf j +ℤ weight j *ℤ total n (λ i. lf i *ℤ a i j)) *ℤ t +ℤ z) (g.at j lj)
      ∙ ring (den ∷ tf j ∷ weight j ∷ total n (λ i. lf i *ℤ a i j) ∷ t ∷ tn j ∷ total n (λ i. ln i *ℤ a i j) ∷ [])
      (add (mul (add (mul (var 0) (var 1)) (mul (var 2) (var 3))) (var 4)) (add (mul (var 0) (var 5)) (mul (var 2) (var 6))))
      (add (mul (var 0) (add (mul (var 1) (var 4)) (var 5))) (mul (var 2) (add (mul (var 4) (var 3)) (var 6)))) refl
      ∙ ap (λ (z : ℤ). den *ℤ at_t t tf tn j +ℤ weight j *ℤ z) (sym c));
}

-- the order of Far is that of the numbers at t, if the near part is less than t in size
pub far_nonneg : (t far near : ℤ) → pos 0 <ℤ t → near <ℤ t → pos 0 ≤ℤ (far *ℤ t +ℤ near) → pos 0 ≤ℤ far
far_nonneg t far near tp h k = by_lt_z far (pos 0)
    (λ (low : far <ℤ pos 0).
    let p = mul_nonneg (negsuc 0 -ℤ far) t (omega (arith, ints)) (omega (arith, ints)) in
    let e : (negsuc 0 -ℤ far) *ℤ t ≡ (pos 0 -ℤ t) -ℤ far *ℤ t = ring (far ∷ t ∷ []) (mul (sub (con (negsuc 0)) (var 0)) (var 1))
    (sub (sub (con (pos 0)) (var 1)) (mul (var 0) (var 1))) refl in
    absurd (omega (arith, ints)))
    (λ (high : pos 0 ≤ℤ far). high)

-- the near part isn't negative if the far part is 0 and the number at t isn't negative
pub near_nonneg : (t far near : ℤ) → far ≡ pos 0 → pos 0 ≤ℤ (far *ℤ t +ℤ near) → pos 0 ≤ℤ near
near_nonneg t far near e k = let p : far *ℤ t ≡ pos 0 *ℤ t = ap (λ (z : ℤ). z *ℤ t) e in omega (arith, ints)

-- the far parts of a point that is solved for the target lowered by each weight
module _ (m n : ℕ) (a : ℕ → ℕ → ℤ) (den : ℤ) (far first weight : ℕ → ℤ) (wp : (j : ℕ) → j < m → pos 0 <ℤ weight j)
    (s : Solved m n a den far first (λ j. pos 0 -ℤ weight j) weight) where
  -- no coordinate has a far part: far parts are at least 0, each row that made the point is tight and its bound has no far part, and each coordinate lies in one
  pub plain : ((i : ℕ) → i < n → dot m (a i) far ≡ pos 0) → ((i j : ℕ) → pos 0 ≤ℤ a i j) → ((j : ℕ) → j < m → pos 0 ≤ℤ far j)
      → (j : ℕ) → j < m → far j ≡ pos 0
  plain tight entries low j lt = by_row (zeros_or n (λ i. a i j))
    where
      by_row : ((i : ℕ) → i < n → a i j ≡ pos 0) ⊎ ((q : ℕ) × (q < n) × ¬ (a q j ≡ pos 0)) → far j ≡ pos 0
      by_row (inl none) =
          let c : total n (λ i. first i *ℤ a i j) ≡ pos 0 = total-zero n (λ i. first i *ℤ a i j) (λ i li. times_zero (first i) (a i j) (none i li)) in
          let z = times_zero (weight j) (total n (λ i. first i *ℤ a i j)) c in
          let p = mul_positive den (weight j) s.positive (wp j lt) in
          let e : den *ℤ (pos 0 -ℤ weight j) ≡ pos 0 -ℤ den *ℤ weight j =
          ring (den ∷ weight j ∷ []) (mul (var 0) (sub (con (pos 0)) (var 1))) (sub (con (pos 0)) (mul (var 0) (var 1))) refl in
          let f = s.at j lt in let g = low j lt in
          absurd (omega (arith, ints))
      by_row (inr (q, lq, nz)) =
          let t : (a q j *ℤ far j) ≤ℤ dot m (a q) far = term-le m (λ j. a q j *ℤ far j) (λ j lj. mul_nonneg (a q j) (far j) (entries q j) (low j lj)) j lt in
          let u = tight q lq in
          let v = mul_nonneg (a q j) (far j) (entries q j) (low j lt) in
          mul-zero_cases (a q j) (far j) (omega (arith, ints)) nz

  -- the first numbers of the rows that hold j sum to den
  pub columns_first : (j : ℕ) → j < m → far j ≡ pos 0 → total n (λ i. first i *ℤ a i j) ≡ den
  columns_first j lt e =
      let c : ℤ = total n (λ i. first i *ℤ a i j) in
      let f = s.at j lt in
      let r : den *ℤ (pos 0 -ℤ weight j) +ℤ weight j *ℤ c ≡ weight j *ℤ (c -ℤ den) =
      ring (den ∷ weight j ∷ c ∷ []) (add (mul (var 0) (sub (con (pos 0)) (var 1))) (mul (var 1) (var 2))) (mul (var 1) (sub (var 2) (var 0))) refl in
      let p : weight j *ℤ (c -ℤ den) ≡ pos 0 = omega (arith, ints) in
      let d : c -ℤ den ≡ pos 0 = mul-zero_cases (weight j) (c -ℤ den) p (λ w. let b = wp j lt in absurd (omega (arith, ints))) in
      omega (arith, ints)

when_times : (b : Bool) (x y : ℤ) → when b x *ℤ y ≡ when b (x *ℤ y)
when_times true x y = refl
when_times false x y = omega (arith, ints)

eqb_same : (k : ℕ) → eqb k k ≡ true
eqb_same k = grind (arith, nat_tests)

eqb_other : (k r : ℕ) → ¬ (k ≡ r) → eqb k r ≡ false
eqb_other k r h = grind (arith, nat_tests)

-- of a sum dot rows only row k counts
pub pick : (r k : ℕ) (g : ℕ → ℤ) → k < r → total r (λ q. when (eqb k q) (g q)) ≡ g k
pick zero k g lt = absurd (omega arith)
pick (suc r) k g lt = elim (lt_or k r lt) [
  | inl below ↦ (let p = pick r k g below in let e : when (eqb k r) (g r) ≡ pos 0 = ap (λ (b : Bool). when b (g r)) (eqb_other k r (λ e. omega arith)) in
      omega (arith, ints))
  | inr same ↦ (let z : total r (λ q. when (eqb k q) (g q)) ≡ pos 0 = total-zero r (λ q. when (eqb k q) (g q))
      (λ q lq. ap (λ (b : Bool). when b (g q)) (eqb_other k q (λ e. omega arith))) in
      let e : when (eqb k r) (g r) ≡ g r = ap (λ (b : Bool). when b (g r)) (ap (λ (t : ℕ). eqb k t) (sym same) ∙ eqb_same k) in
      let f : g k ≡ g r = ap g same in omega (arith, ints))
]

-- a sum dot all rows is the sum dot the listed ones
pub spread_sum : (r n : ℕ) (rows : ℕ → ℕ) (l g : ℕ → ℤ) → ((i : ℕ) → i < n → rows i < r) → total r (λ q. spread n rows l q *ℤ g q) ≡ total n
    (λ i. l i *ℤ g (rows i))
spread_sum r n rows l g within =
    total-same r (λ q. spread n rows l q *ℤ g q) (λ q. total n (λ i. when (eqb (rows i) q) (l i *ℤ g q)))
    (λ q lq. *ℤ_comm (spread n rows l q) (g q) ∙ sym (total-scale n (g q) (λ i. when (eqb (rows i) q) (l i)))
    ∙ total-same n (λ i. g q *ℤ when (eqb (rows i) q) (l i)) (λ i. when (eqb (rows i) q) (l i *ℤ g q))
    (λ i li. *ℤ_comm (g q) (when (eqb (rows i) q) (l i)) ∙ when_times (eqb (rows i) q) (l i) (g q)))
    ∙ total-swap r n (λ q i. when (eqb (rows i) q) (l i *ℤ g q))
    ∙ total-same n (λ i. total r (λ q. when (eqb (rows i) q) (l i *ℤ g q))) (λ i. l i *ℤ g (rows i)) (λ i li. pick r (rows i) (λ q. l i *ℤ g q) (within i li))

when_nonneg : (b : Bool) (x : ℤ) → pos 0 ≤ℤ x → pos 0 ≤ℤ when b x
when_nonneg true x h = h
when_nonneg false x h = omega (arith, ints)

-- pairs that are at least 0 in the order of Far
pub record FarSign (n : ℕ) (lf ln : ℕ → ℤ) : Type 0 where
  pub far : (i : ℕ) → i < n → pos 0 ≤ℤ lf i
  pub near : (i : ℕ) → i < n → lf i ≡ pos 0 → pos 0 ≤ℤ ln i

-- near parts below t: numbers that aren't negative at t aren't negative in the order of Far
pub sign-at_t : (n : ℕ) (t : ℤ) (lf ln : ℕ → ℤ) → pos 0 <ℤ t → ((i : ℕ) → i < n → ln i <ℤ t) → ((i : ℕ) → i < n → pos 0 ≤ℤ at_t t lf ln i) → FarSign n lf ln
sign-at_t n t lf ln tp small h = record {
  far = λ i lt. far_nonneg t (lf i) (ln i) tp (small i lt) (h i lt);
  near =
      λ i lt e. near_nonneg t (lf i) (ln i) e (h i lt);
}

-- of pairs that aren't negative in the order of Far, no row gets a negative first multiplier
pub spread_first : (n : ℕ) (rows : ℕ → ℕ) (lf ln : ℕ → ℤ) (r : ℕ) → FarSign n lf ln → pos 0 ≤ℤ spread n rows lf r
spread_first n rows lf ln r s = total-nonneg n (λ i. when (eqb (rows i) r) (lf i)) (λ i li. when_nonneg (eqb (rows i) r) (lf i) (s.far i li))

when_sign : (b : Bool) (x y : ℤ) → when b x ≡ pos 0 → (x ≡ pos 0 → pos 0 ≤ℤ y) → pos 0 ≤ℤ when b y
when_sign true x y e h = h e
when_sign false x y e h = omega (arith, ints)

-- of pairs that aren't negative, a row whose first multiplier is 0 gets no negative second one
pub spread_second : (n : ℕ) (rows : ℕ → ℕ) (lf ln : ℕ → ℤ) (r : ℕ) → FarSign n lf ln → spread n rows lf r ≡ pos 0 → pos 0 ≤ℤ spread n rows ln r
spread_second n rows lf ln r s e =
    let low : (i : ℕ) → i < n → pos 0 ≤ℤ when (eqb (rows i) r) (lf i) = λ i li. when_nonneg (eqb (rows i) r) (lf i) (s.far i li) in
    total-nonneg n (λ i. when (eqb (rows i) r) (ln i)) (λ i li.
    when_sign (eqb (rows i) r) (lf i) (ln i) (let p = term-le n (λ i. when (eqb (rows i) r) (lf i)) low i li in let q = low i li in omega (arith, ints))
    (s.near i li))

when_is : (b : Bool) (x : ℤ) → ¬ (when b x ≡ pos 0) → b ≡ true
when_is true x h = refl
when_is false x h = absurd (h refl)

eqb_is : (k r : ℕ) → eqb k r ≡ true → k ≡ r
eqb_is k r e = grind (arith, nat_tests)

-- a row that is listed nowhere has the number 0
pub spread_listed : (n : ℕ) (rows : ℕ → ℕ) (l : ℕ → ℤ) (r : ℕ) → ¬ (spread n rows l r ≡ pos 0) → (i : ℕ) × (i < n) × (rows i ≡ r)
spread_listed n rows l r h = go (zeros_or n (λ i. when (eqb (rows i) r) (l i)))
  where
    go : ((i : ℕ) → i < n → when (eqb (rows i) r) (l i) ≡ pos 0) ⊎ ((i : ℕ) × (i < n) × ¬ (when (eqb (rows i) r) (l i) ≡ pos 0))
        → (i : ℕ) × (i < n) × (rows i ≡ r)
    go (inl z) = absurd (h (total-zero n (λ i. when (eqb (rows i) r) (l i)) z))
    go (inr (i, li, nz)) = (i, li, eqb_is (rows i) r (when_is (eqb (rows i) r) (l i) nz))

sum_ones : (n : ℕ) → total n (λ i. pos 1) ≡ pos n
sum_ones zero = refl
sum_ones (suc n) = let p = sum_ones n in omega (arith, ints)

-- at most n rows have a pair other than 0, 0
pub spread_few : (r n : ℕ) (rows : ℕ → ℕ) (lf ln : ℕ → ℤ) → ((i : ℕ) → i < n → rows i < r) → pairs_used r (spread n rows lf) (spread n rows ln) ≤ n
spread_few r n rows lf ln within =
    let all : total r (λ q. spread n rows (λ i. pos 1) q *ℤ pos 1) ≡ total n (λ i. pos 1 *ℤ pos 1) = spread_sum r n rows (λ i. pos 1) (λ q. pos 1) within in
    let b = below r in
    let c = sum_ones n in
    omega (arith, ints)
  where
    used_or : (q : ℕ) → (1 - is_zero (spread n rows lf q) * is_zero (spread n rows ln q) ≡ 0) ⊎ ((i : ℕ) × (i < n) × (rows i ≡ q))
    used_or q = cases (zero_or (spread n rows lf q)) (zero_or (spread n rows ln q))
      where
        cases : (spread n rows lf q ≡ pos 0) ⊎ ¬ (spread n rows lf q ≡ pos 0) → (spread n rows ln q ≡ pos 0) ⊎ ¬ (spread n rows ln q ≡ pos 0)
            → (1 - is_zero (spread n rows lf q) * is_zero (spread n rows ln q) ≡ 0) ⊎ ((i : ℕ) × (i < n) × (rows i ≡ q))
        cases (inl e) (inl f) = inl (let p : is_zero (spread n rows lf q) ≡ 1 = ap is_zero e in let o : is_zero (spread n rows ln q) ≡ 1 = ap is_zero f in
            rw (p, o) refl)
        cases (inr h) f = inr (spread_listed n rows lf q h)
        cases (inl e) (inr h) = inr (spread_listed n rows ln q h)

    one_at_most : (q : ℕ) → pos (1 - is_zero (spread n rows lf q) * is_zero (spread n rows ln q)) ≤ℤ (spread n rows (λ i. pos 1) q *ℤ pos 1)
    one_at_most q = cases (used_or q)
      where
        low : (i : ℕ) → i < n → pos 0 ≤ℤ when (eqb (rows i) q) (pos 1)
        low i li = when_nonneg (eqb (rows i) q) (pos 1) (omega (arith, ints))

        cases : (1 - is_zero (spread n rows lf q) * is_zero (spread n rows ln q) ≡ 0) ⊎ ((i : ℕ) × (i < n) × (rows i ≡ q))
            → pos (1 - is_zero (spread n rows lf q) * is_zero (spread n rows ln q)) ≤ℤ (spread n rows (λ i. pos 1) q *ℤ pos 1)
        cases (inl e) = let p = total-nonneg n (λ i. when (eqb (rows i) q) (pos 1)) low in omega (arith, ints)
        cases (inr (i, li, e)) =
            let p = term-le n (λ i. when (eqb (rows i) q) (pos 1)) low i li in
            let o : when (eqb (rows i) q) (pos 1) ≡ pos 1 = ap (λ (b : Bool). when b (pos 1)) (ap (λ (t : ℕ). eqb t q) e ∙ eqb_same q) in
            omega (arith, ints)

    below : (c : ℕ) → pos (pairs_used c (spread n rows lf) (spread n rows ln)) ≤ℤ total c (λ q. spread n rows (λ i. pos 1) q *ℤ pos 1)
    below zero = omega (arith, ints)
    below (suc c) = let p = below c in let o = one_at_most c in omega (arith, ints)
