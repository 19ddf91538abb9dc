-- Rows as vectors: more of them than coordinates depend on each other, and rows that the segment between two points crosses don't.
use Rattle.std.proofs.Common.{◌≡◌, ℕ, zero, suc, ◌+◌, ◌<◌, ◌≤◌, arith, refl, sym, ap, ◌∙◌, ◌⊎◌, inl, inr, [], ◌∷◌, ◌-◌, subst}
use Rattle.std.specs.Prelude.{ℤ, pos, ◌+ℤ◌, ◌*ℤ◌, ◌-ℤ◌, ◌≤ℤ◌, ◌<ℤ◌}
use Rattle.std.proofs.lemmas.Int.{ints}
use Rattle.std.proofs.Math.IntN.{*ℤ_comm}
use Rattle.projection_laws.proofs.Order.{mul_nonneg, square_nonneg, zero_or}
use Rattle.wide_num.proofs.Ints.{mul-zero_cases}
use Rattle.projection_laws.proofs.Ring.{var, con, add, sub, mul, ring}
use Rattle.wide_num.specs.Sums.{dot, total}
use Rattle.nearest_point.specs.Search.{Independent, gram}
use Rattle.wide_num.proofs.Sums.{total-add, total-same, total-scale, total-zero}
use Rattle.projection_laws.proofs.Sums.{total-sub, term-le, dual}
use Rattle.nearest_point.proofs.Places.{lt_or}
use Rattle.projection_laws.proofs.PointLaws.{times_zero}
use Rattle.nearest_point.proofs.Forced.{nothing_left}

-- f below n, k from n on
abbrev pub cut : ℕ → (ℕ → ℤ) → ℤ → ℕ → ℤ
cut zero f k i = k
cut (suc n) f k zero = f zero
cut (suc n) f k (suc i) = cut n (λ i. f (suc i)) k i

-- below the cut the numbers are those of the function
pub cut-below : (n : ℕ) (f : ℕ → ℤ) (k : ℤ) (i : ℕ) → i < n → cut n f k i ≡ f i
cut-below zero f k i lt = absurd (omega arith)
cut-below (suc n) f k zero lt = refl
cut-below (suc n) f k (suc i) lt = cut-below n (λ i. f (suc i)) k i (omega arith)

-- at the cut stands the other number
pub cut-at : (n : ℕ) (f : ℕ → ℤ) (k : ℤ) → cut n f k n ≡ k
cut-at zero f k = refl
cut-at (suc n) f k = cut-at n (λ i. f (suc i)) k

-- the numbers but q, in order
abbrev pub skip : ℕ → ℕ → ℕ
skip zero j = suc j
skip (suc q) zero = zero
skip (suc q) (suc j) = suc (skip q j)

skip_hits : (n q j : ℕ) → q < suc n → j < suc n → (j ≡ q) ⊎ ((i : ℕ) × (i < n) × (skip q i ≡ j))
skip_hits n zero zero qn jn = inl refl
skip_hits n zero (suc j) qn jn = inr (j, omega arith, refl)
skip_hits zero (suc q) j qn jn = absurd (omega arith)
skip_hits (suc n) (suc q) zero qn jn = inr (zero, omega arith, refl)
skip_hits (suc n) (suc q) (suc j) qn jn = lift n q j (skip_hits n q j (omega arith) (omega arith))
  where
    lift : (n q j : ℕ) → (j ≡ q) ⊎ ((i : ℕ) × (i < n) × (skip q i ≡ j)) → (suc j ≡ suc q) ⊎ ((i : ℕ) × (i < suc n) × (skip (suc q) i ≡ suc j))
    lift n q j (inl e) = inl (ap suc e)
    lift n q j (inr (i, b, e)) = inr (suc i, omega arith, ap suc e)

-- of n numbers all are 0, or one is another number
pub zeros_or : (n : ℕ) (f : ℕ → ℤ) → ((j : ℕ) → j < n → f j ≡ pos 0) ⊎ ((q : ℕ) × (q < n) × ¬ (f q ≡ pos 0))
zeros_or zero f = inl (λ j lt. absurd (omega arith))
zeros_or (suc n) f = step (zeros_or n f) (zero_or (f n))
  where
    step : ((j : ℕ) → j < n → f j ≡ pos 0) ⊎ ((q : ℕ) × (q < n) × ¬ (f q ≡ pos 0)) → (f n ≡ pos 0) ⊎ ¬ (f n ≡ pos 0)
        → ((j : ℕ) → j < suc n → f j ≡ pos 0) ⊎ ((q : ℕ) × (q < suc n) × ¬ (f q ≡ pos 0))
    step (inr (q, b, e)) h = inr (q, omega arith, e)
    step (inl z) (inr e) = inr (n, omega arith, e)
    step (inl z) (inl e) = inl (λ j lt. elim (lt_or j n lt) [ inl b ↦ z j b | inr d ↦ ap f d ∙ e ])

-- a combination of n rows, not all zero, that is 0 in each of m coordinates
abbrev pub Depends : ℕ → ℕ → (ℕ → ℕ → ℤ) → Type 0
Depends m n a = (c : ℕ → ℤ) × ((j : ℕ) → j < m → total n (λ i. c i *ℤ a i j) ≡ pos 0) × ((i : ℕ) × (i < n) × ¬ (c i ≡ pos 0))

not_zero_product : (a b : ℤ) → ¬ (a ≡ pos 0) → ¬ (b ≡ pos 0) → ¬ (a *ℤ b ≡ pos 0)
not_zero_product a b p q e = q (mul-zero_cases a b e p)

sum-cut : (n : ℕ) (c : ℕ → ℤ) (k : ℤ) (a : ℕ → ℤ) → total (suc n) (λ i. cut n c k i *ℤ a i) ≡ total n (λ i. c i *ℤ a i) +ℤ k *ℤ a n
sum-cut n c k a =
    let p = total-same n (λ i. cut n c k i *ℤ a i) (λ i. c i *ℤ a i) (λ i lt. ap (λ (z : ℤ). z *ℤ a i) (cut-below n c k i lt)) in
    let q : cut n c k n *ℤ a n ≡ k *ℤ a n = ap (λ (z : ℤ). z *ℤ a n) (cut-at n c k) in
    omega (arith, ints)

-- of one row more than coordinates some combination, not all zero, is 0 everywhere
pub more_rows_depend : (m : ℕ) (a : ℕ → ℕ → ℤ) → Depends m (suc m) a
more_rows_depend zero a = ((λ i. pos 1), (λ j lt. absurd (omega arith)), (zero, omega arith, λ e. cc))
more_rows_depend (suc m) a = by_last (λ b. more_rows_depend m b) (zeros_or (suc m) (a (suc m)))
  where
    by_last : ((b : ℕ → ℕ → ℤ) → Depends m (suc m) b) → ((j : ℕ) → j < suc m → a (suc m) j ≡ pos 0) ⊎ ((q : ℕ) × (q < suc m) × ¬ (a (suc m) q ≡ pos 0))
        → Depends (suc m) (suc (suc m)) a
    by_last ih (inl z) = (
      cut (suc m) (λ i. pos 0) (pos 1),
      (λ j lt. sum-cut (suc m) (λ i. pos 0) (pos 1) (λ i. a i j)
          ∙ (let p = total-zero (suc m) (λ i. pos 0 *ℤ a i j) (λ i li. omega (arith, ints)) in let e = z j lt in omega (arith, ints))),
      (suc m, omega arith, λ e. let f : pos 1 ≡ pos 0 = sym (cut-at (suc m) (λ i. pos 0) (pos 1)) ∙ e in absurd (omega (arith, ints))),
    )
    by_last ih (inr (q, qm, nz)) = of_fewer (ih (λ i j. a (suc m) q *ℤ a i (skip q j) -ℤ a i q *ℤ a (suc m) (skip q j)))
      where
        of_fewer : Depends m (suc m) (λ i j. a (suc m) q *ℤ a i (skip q j) -ℤ a i q *ℤ a (suc m) (skip q j)) → Depends (suc m) (suc (suc m)) a
        of_fewer (c, zero_at, (i₀, li₀, nz₀)) =
            let v : ℕ → ℤ = a (suc m) in
            let s : ℤ = total (suc m) (λ i. c i *ℤ a i q) in
            let c' : ℕ → ℤ = λ i. c i *ℤ v q in
            let k : ℤ = pos 0 -ℤ s in
            let both : (j : ℕ) → total (suc m) (λ i. c' i *ℤ a i j) +ℤ k *ℤ v j ≡ total (suc m) (λ i. c i *ℤ (v q *ℤ a i j -ℤ a i q *ℤ v j)) =
            λ j. (let p : total (suc m) (λ i. c i *ℤ (v q *ℤ a i j -ℤ a i q *ℤ v j)) ≡ total (suc m) (λ i. c' i *ℤ a i j) -ℤ total (suc m)
            (λ i. v j *ℤ (c i *ℤ a i q)) =
            total-same (suc m) (λ i. c i *ℤ (v q *ℤ a i j -ℤ a i q *ℤ v j)) (λ i. c' i *ℤ a i j -ℤ v j *ℤ (c i *ℤ a i q))
            (λ i li. ring (c i ∷ v q ∷ a i j ∷ a i q ∷ v j ∷ []) (mul (var 0) (sub (mul (var 1) (var 2)) (mul (var 3) (var 4))))
            (sub (mul (mul (var 0) (var 1)) (var 2)) (mul (var 4) (mul (var 0) (var 3)))) refl)
            ∙ total-sub (suc m) (λ i. c' i *ℤ a i j) (λ i. v j *ℤ (c i *ℤ a i q)) in
            let o = total-scale (suc m) (v j) (λ i. c i *ℤ a i q) in
            let r : k *ℤ v j ≡ pos 0 -ℤ v j *ℤ s = ring (s ∷ v j ∷ []) (mul (sub (con (pos 0)) (var 0)) (var 1))
            (sub (con (pos 0)) (mul (var 1) (var 0))) refl in
            omega (arith, ints)) in (
              cut (suc m) c' k,
              (λ j lt. sum-cut (suc m) c' k (λ i. a i j) ∙ both j
                  ∙ elim (skip_hits m q j qm lt) [
                    | inl e ↦ total-zero (suc m) (λ i. c i *ℤ (v q *ℤ a i j -ℤ a i q *ℤ v j)) (λ i li.
                        times_zero (c i) (v q *ℤ a i j -ℤ a i q *ℤ v j) (ap (λ (t : ℕ). v q *ℤ a i t -ℤ a i q *ℤ v t) e
                        ∙ ring (v q ∷ a i q ∷ []) (sub (mul (var 0) (var 1)) (mul (var 1) (var 0))) (con (pos 0)) refl))
                    | inr (j', lj, e) ↦ ap (λ (t : ℕ). total (suc m) (λ i. c i *ℤ (v q *ℤ a i t -ℤ a i q *ℤ v t))) (sym e) ∙ zero_at j' lj
                  ]),
              (i₀, omega arith, λ e. not_zero_product (c i₀) (v q) nz₀ nz (sym (cut-below (suc m) c' k i₀ li₀) ∙ e)),
            )

-- no rows at all are independent
pub none_independent : (m : ℕ) (a : ℕ → ℕ → ℤ) → Independent m 0 a
none_independent m a = record { only_zero = λ c h i lt. absurd (omega arith) }

-- one more row than coordinates is never independent
pub independent_fits : (m : ℕ) (a : ℕ → ℕ → ℤ) → Independent m (suc m) a → ⊥
independent_fits m a h = go (more_rows_depend m a)
  where
    go : Depends m (suc m) a → ⊥
    go (c, z, (i, lt, nz)) = nz (h.only_zero c z i lt)

-- rows that agree on a direction z except for the last one stay independent with it
pub independent_more : (m n : ℕ) (a : ℕ → ℕ → ℤ) (z : ℕ → ℤ) → Independent m n a → ((i : ℕ) → i < n → dot m (a i) z ≡ pos 0) → ¬ (dot m (a n) z ≡ pos 0)
    → Independent m (suc n) a
independent_more m n a z h flat apart = record { only_zero = all }
  where
    all : (c : ℕ → ℤ) → ((j : ℕ) → j < m → total (suc n) (λ i. c i *ℤ a i j) ≡ pos 0) → (i : ℕ) → i < suc n → c i ≡ pos 0
    all c hc i lt =
        let d : total m (λ j. total (suc n) (λ i. c i *ℤ a i j) *ℤ z j) ≡ total (suc n) (λ i. c i *ℤ dot m (a i) z) = dual m (suc n) a c z in
        let e : total m (λ j. total (suc n) (λ i. c i *ℤ a i j) *ℤ z j) ≡ pos 0 = total-zero m (λ j. total (suc n) (λ i. c i *ℤ a i j) *ℤ z j)
        (λ j lj. ap (λ (t : ℤ). t *ℤ z j) (hc j lj) ∙ omega (arith, ints)) in
        let f : total n (λ i. c i *ℤ dot m (a i) z) ≡ pos 0 = total-zero n (λ i. c i *ℤ dot m (a i) z) (λ i li. times_zero (c i) (dot m (a i) z) (flat i li)) in
        let g : dot m (a n) z *ℤ c n ≡ pos 0 = *ℤ_comm (dot m (a n) z) (c n) ∙ omega (arith, ints) in
        let last : c n ≡ pos 0 = mul-zero_cases (dot m (a n) z) (c n) g apart in
        let rest : (i : ℕ) → i < n → c i ≡ pos 0 = h.only_zero c (λ j lj. let p = hc j lj in let q : c n *ℤ a n j ≡ pos 0 =
        ap (λ (t : ℤ). t *ℤ a n j) last ∙ omega (arith, ints) in omega (arith, ints)) in
        elim (lt_or i n lt) [ inl b ↦ rest i b | inr b ↦ ap c b ∙ last ]

-- sum dot k of c k * gram i k is the sum dot j of a i j * (weight j * column j)
pub gram_times : (m n : ℕ) (a : ℕ → ℕ → ℤ) (weight c : ℕ → ℤ) (i : ℕ)
    → total n (λ k. gram m a weight i k *ℤ c k) ≡ dot m (a i) (λ j. weight j *ℤ total n (λ k. c k *ℤ a k j))
gram_times m n a weight c i =
    total-same n (λ k. gram m a weight i k *ℤ c k) (λ k. c k *ℤ total m (λ j. a k j *ℤ (a i j *ℤ weight j)))
    (λ k lk. *ℤ_comm (gram m a weight i k) (c k) ∙ ap (λ (t : ℤ). c k *ℤ t) (total-same m (λ j. a i j *ℤ (weight j *ℤ a k j))
    (λ j. a k j *ℤ (a i j *ℤ weight j))
    (λ j lj. ring (a i j ∷ weight j ∷ a k j ∷ []) (mul (var 0) (mul (var 1) (var 2))) (mul (var 2) (mul (var 0) (var 1))) refl)))
    ∙ sym (dual m n a c (λ j. a i j *ℤ weight j))
    ∙ total-same m (λ j. total n (λ k. c k *ℤ a k j) *ℤ (a i j *ℤ weight j)) (λ j. a i j *ℤ (weight j *ℤ total n (λ k. c k *ℤ a k j)))
    (λ j lj. ring (total n (λ k. c k *ℤ a k j) ∷ a i j ∷ weight j ∷ []) (mul (var 0) (mul (var 1) (var 2))) (mul (var 1) (mul (var 2) (var 0))) refl)

-- if the rows are independent, the matrix sends no combination but zero to zero
pub never_dependent : (m n : ℕ) (a : ℕ → ℕ → ℤ) (weight c : ℕ → ℤ) → ((j : ℕ) → j < m → pos 0 <ℤ weight j) → Independent m n a
    → ((i : ℕ) → i < n → total n (λ k. gram m a weight i k *ℤ c k) ≡ pos 0) → (i : ℕ) → i < n → c i ≡ pos 0
never_dependent m n a weight c wp h z i lt =
    let y : ℕ → ℤ = λ j. total n (λ k. c k *ℤ a k j) in
    let q : ℕ → ℤ = λ j. weight j *ℤ (y j *ℤ y j) in
    let s : total m q ≡ pos 0 =
    total-same m q (λ j. y j *ℤ (weight j *ℤ y j)) (λ j lj. ring (weight j ∷ y j ∷ []) (mul (var 0) (mul (var 1) (var 1)))
    (mul (var 1) (mul (var 0) (var 1))) refl)
    ∙ dual m n a c (λ j. weight j *ℤ y j)
    ∙ total-zero n (λ i. c i *ℤ dot m (a i) (λ j. weight j *ℤ y j)) (λ i li. times_zero (c i) (dot m (a i) (λ j. weight j *ℤ y j))
    (sym (gram_times m n a weight c i) ∙ z i li)) in
    let squares : (j : ℕ) → j < m → pos 0 ≤ℤ q j = λ j lj. mul_nonneg (weight j) (y j *ℤ y j) (let b = wp j lj in omega (arith, ints)) (square_nonneg (y j)) in
    let flat : (j : ℕ) → j < m → y j ≡ pos 0 = λ j lj. nothing_left (weight j) (y j) (wp j lj) (let b = term-le m q squares j lj in omega (arith, ints)) in
    h.only_zero c flat i lt

-- the point u * q + s * x dot e' = s * e + u * d, if q dot d is below row k by s and x dot e is above it by u
pub between : ℤ → (ℕ → ℤ) → ℤ → (ℕ → ℤ) → ℕ → ℤ
between s x u q j = s *ℤ x j +ℤ u *ℤ q j

-- what a row has of the point between is what it has of both points, each times its factor
pub dot-between : (m : ℕ) (a : ℕ → ℤ) (s : ℤ) (x : ℕ → ℤ) (u : ℤ) (q : ℕ → ℤ) → dot m a (between s x u q) ≡ s *ℤ dot m a x +ℤ u *ℤ dot m a q
unfolding between
dot-between m a s x u q =
    total-same m (λ j. a j *ℤ between s x u q j) (λ j. s *ℤ (a j *ℤ x j) +ℤ u *ℤ (a j *ℤ q j))
    (λ j lj. ring (a j ∷ s ∷ x j ∷ u ∷ q j ∷ []) (mul (var 0) (add (mul (var 1) (var 2)) (mul (var 3) (var 4))))
    (add (mul (var 1) (mul (var 0) (var 2))) (mul (var 3) (mul (var 0) (var 4)))) refl)
    ∙ total-add m (λ j. s *ℤ (a j *ℤ x j)) (λ j. u *ℤ (a j *ℤ q j))
    ∙ (let p = total-scale m s (λ j. a j *ℤ x j) in let o = total-scale m u (λ j. a j *ℤ q j) in omega (arith, ints))

-- a row that both points meet with equality, or meet, is met so by the point between, and row k with equality
pub between_equal : (m : ℕ) (a : ℕ → ℤ) (b s : ℤ) (x : ℕ → ℤ) (u : ℤ) (q : ℕ → ℤ) (d e : ℤ) → dot m a x ≡ e *ℤ b → dot m a q ≡ d *ℤ b
    → dot m a (between s x u q) ≡ (s *ℤ e +ℤ u *ℤ d) *ℤ b
between_equal m a b s x u q d e hx hq =
    dot-between m a s x u q ∙ ap (λ (t : ℤ). s *ℤ t +ℤ u *ℤ dot m a q) hx ∙ ap (λ (t : ℤ). s *ℤ (e *ℤ b) +ℤ u *ℤ t) hq
    ∙ ring (s ∷ e ∷ b ∷ u ∷ d ∷ []) (add (mul (var 0) (mul (var 1) (var 2))) (mul (var 3) (mul (var 4) (var 2))))
    (mul (add (mul (var 0) (var 1)) (mul (var 3) (var 4))) (var 2)) refl

-- a row that both points meet is met by the point between, for factors that aren't negative
pub between_above : (m : ℕ) (a : ℕ → ℤ) (b s : ℤ) (x : ℕ → ℤ) (u : ℤ) (q : ℕ → ℤ) (d e : ℤ) → pos 0 ≤ℤ s → pos 0 ≤ℤ u → (e *ℤ b) ≤ℤ dot m a x
    → (d *ℤ b) ≤ℤ dot m a q
    → ((s *ℤ e +ℤ u *ℤ d) *ℤ b) ≤ℤ dot m a (between s x u q)
between_above m a b s x u q d e hs hu hx hq =
    let o = dot-between m a s x u q in
    let p = mul_nonneg s (dot m a x -ℤ e *ℤ b) hs (omega (arith, ints)) in
    let r = mul_nonneg u (dot m a q -ℤ d *ℤ b) hu (omega (arith, ints)) in
    let f : s *ℤ (dot m a x -ℤ e *ℤ b) +ℤ u *ℤ (dot m a q -ℤ d *ℤ b) ≡ (s *ℤ dot m a x +ℤ u *ℤ dot m a q) -ℤ (s *ℤ e +ℤ u *ℤ d) *ℤ b
    = ring (s ∷ dot m a x ∷ e ∷ b ∷ u ∷ dot m a q ∷ d ∷ []) (add (mul (var 0) (sub (var 1) (mul (var 2) (var 3))))
    (mul (var 4) (sub (var 5) (mul (var 6) (var 3)))))
    (sub (add (mul (var 0) (var 1)) (mul (var 4) (var 5))) (mul (add (mul (var 0) (var 2)) (mul (var 4) (var 6))) (var 3))) refl in
    omega (arith, ints)

-- with what q is below a row and x above it as factors, the point between meets the row with equality
pub between_crosses : (m : ℕ) (a : ℕ → ℤ) (b : ℤ) (x q : ℕ → ℤ) (d e : ℤ)
    → dot m a (between (d *ℤ b -ℤ dot m a q) x (dot m a x -ℤ e *ℤ b) q) ≡ ((d *ℤ b -ℤ dot m a q) *ℤ e +ℤ (dot m a x -ℤ e *ℤ b) *ℤ d) *ℤ b
between_crosses m a b x q d e =
    dot-between m a (d *ℤ b -ℤ dot m a q) x (dot m a x -ℤ e *ℤ b) q
    ∙ ring (d ∷ b ∷ dot m a q ∷ dot m a x ∷ e ∷ [])
    (add (mul (sub (mul (var 0) (var 1)) (var 2)) (var 3)) (mul (sub (var 3) (mul (var 4) (var 1))) (var 2)))
    (mul (add (mul (sub (mul (var 0) (var 1)) (var 2)) (var 4)) (mul (sub (var 3) (mul (var 4) (var 1))) (var 0))) (var 1)) refl

cut-above : (n : ℕ) (f : ℕ → ℤ) (k : ℤ) (i : ℕ) → n ≤ i → cut n f k i ≡ k
cut-above zero f k i le = refl
cut-above (suc n) f k zero le = absurd (omega arith)
cut-above (suc n) f k (suc i) le = cut-above n (λ i. f (suc i)) k i (omega arith)

sum_cut-long : (k d : ℕ) (c a : ℕ → ℤ) → total (d + k) (λ i. cut k c (pos 0) i *ℤ a i) ≡ total k (λ i. c i *ℤ a i)
sum_cut-long k zero c a =
    let e : zero + k ≡ k = omega arith in
    ap (λ (t : ℕ). total t (λ i. cut k c (pos 0) i *ℤ a i)) e ∙ total-same k (λ i. cut k c (pos 0) i *ℤ a i) (λ i. c i *ℤ a i)
    (λ i lt. ap (λ (z : ℤ). z *ℤ a i) (cut-below k c (pos 0) i lt))
sum_cut-long k (suc d) c a =
    let e : suc d + k ≡ suc (d + k) = omega arith in
    ap (λ (t : ℕ). total t (λ i. cut k c (pos 0) i *ℤ a i)) e
    ∙ (let p = sum_cut-long k d c a in
    let z : cut k c (pos 0) (d + k) *ℤ a (d + k) ≡ pos 0 *ℤ a (d + k) = ap (λ (t : ℤ). t *ℤ a (d + k)) (cut-above k c (pos 0) (d + k) (omega arith)) in
    omega (arith, ints))

-- the prefix of independent rows is independent
pub independent_front : (m k d : ℕ) (a : ℕ → ℕ → ℤ) → Independent m (d + k) a → Independent m k a
independent_front m k d a h = record {
  only_zero = λ c z i lt. sym (cut-below k c (pos 0) i lt) ∙ h.only_zero (cut k c (pos 0)) (λ j lj. sum_cut-long k d c (λ i. a i j) ∙ z j lj) i (omega arith);
}

-- independent rows are at most as many as coordinates
pub independent_le : (m n : ℕ) (a : ℕ → ℕ → ℤ) → Independent m n a → n ≤ m
independent_le m n a h = by_order (n - m) refl
  where
    by_order : (d : ℕ) → n - m ≡ d → n ≤ m
    by_order zero e = omega arith
    by_order (suc d) e = absurd (independent_fits m a (independent_front m (suc m) d a (subst (λ (t : ℕ). Independent m t a) (omega arith) h)))
