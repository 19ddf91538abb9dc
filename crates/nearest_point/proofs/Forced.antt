-- Points that are solved from forced rows: when two of them coincide, why the multiplier of a newly forced row is positive, and why a point that meets it can be found.
use Rattle.std.proofs.Common.{◌≡◌, ℕ, zero, suc, ◌<◌, ◌≤◌, arith, refl, sym, ap, ◌∙◌, ◌⊎◌, inl, inr, [], ◌∷◌}
use Rattle.std.specs.Prelude.{ℤ, pos, ◌+ℤ◌, ◌*ℤ◌, ◌-ℤ◌, ◌≤ℤ◌, ◌<ℤ◌}
use Rattle.std.proofs.lemmas.Int.{ints, by_lt_z}
use Rattle.std.proofs.Math.IntN.{*ℤ_comm}
use Rattle.projection_laws.proofs.Order.{mul_nonneg, mul_positive, square_nonneg, square_positive, zero_or}
use Rattle.projection_laws.proofs.Ring.{var, con, add, sub, mul, ring}
use Rattle.wide_num.specs.Sums.{dot, total}
use Rattle.nearest_point.specs.Search.{Solved, Taken}
use Rattle.wide_num.proofs.Sums.{total-same, total-scale, total-zero}
use Rattle.projection_laws.proofs.Sums.{total-sub, total-nonneg, total-le, term-le, dual}
use Rattle.projection_laws.proofs.PointLaws.{gap_of, dot-gap, times_zero}

-- a number is 0 if its square times a positive weight is at most 0
pub nothing_left : (w u : ℤ) → pos 0 <ℤ w → (w *ℤ (u *ℤ u)) ≤ℤ pos 0 → u ≡ pos 0
nothing_left w u p h =
    elim (zero_or u) [ inl e ↦ e | inr n ↦ absurd (let k = mul_positive w (u *ℤ u) p (square_positive u n) in omega (arith, ints)) ]

-- two solved points are one if no term of the first is positive and none of the second is negative
pub coincide : (m : ℕ) (target weight : ℕ → ℤ) → ((j : ℕ) → j < m → pos 0 <ℤ weight j)
    → (rx : ℕ) (ax : ℕ → ℕ → ℤ) (dx : ℤ) (x lx : ℕ → ℤ) → Solved m rx ax dx x lx target weight
    → (ry : ℕ) (ay : ℕ → ℕ → ℤ) (dy : ℤ) (y ly : ℕ → ℤ) → Solved m ry ay dy y ly target weight
    → ((i : ℕ) → i < rx → (lx i *ℤ dot m (ax i) (gap_of dy y dx x)) ≤ℤ pos 0)
    → ((i : ℕ) → i < ry → pos 0 ≤ℤ (ly i *ℤ dot m (ay i) (gap_of dy y dx x)))
    → (j : ℕ) → j < m → gap_of dy y dx x j ≡ pos 0
coincide m target weight wp rx ax dx x lx sx ry ay dy y ly sy hx hy j lt =
    let z : ℕ → ℤ = gap_of dy y dx x in
    let cx : ℕ → ℤ = λ j. total rx (λ i. lx i *ℤ ax i j) in
    let cy : ℕ → ℤ = λ j. total ry (λ i. ly i *ℤ ay i j) in
    let u : ℕ → ℤ = λ j. dy *ℤ cx j -ℤ dx *ℤ cy j in
    let q : ℕ → ℤ = λ j. weight j *ℤ (u j *ℤ u j) in
    let by_weight : (j : ℕ) → j < m → z j ≡ weight j *ℤ u j =
    λ j lj. (let p = ap (λ (k : ℤ). dy *ℤ k) (sx.at j lj) in let o = ap (λ (k : ℤ). dx *ℤ k) (sy.at j lj) in
    let f : dy *ℤ (dx *ℤ target j +ℤ weight j *ℤ cx j) -ℤ dx *ℤ (dy *ℤ target j +ℤ weight j *ℤ cy j) ≡ weight j *ℤ (dy *ℤ cx j -ℤ dx *ℤ cy j)
    = ring (dy ∷ dx ∷ target j ∷ weight j ∷ cx j ∷ cy j ∷ [])
    (sub (mul (var 0) (add (mul (var 1) (var 2)) (mul (var 3) (var 4)))) (mul (var 1) (add (mul (var 0) (var 2)) (mul (var 3) (var 5)))))
    (mul (var 3) (sub (mul (var 0) (var 4)) (mul (var 1) (var 5)))) refl in
    omega (arith, ints)) in
    let each : total m q ≡ dy *ℤ total m (λ j. cx j *ℤ z j) -ℤ dx *ℤ total m (λ j. cy j *ℤ z j) =
    total-same m q (λ j. dy *ℤ (cx j *ℤ z j) -ℤ dx *ℤ (cy j *ℤ z j))
    (λ j lj. ring (weight j ∷ dy ∷ dx ∷ cx j ∷ cy j ∷ [])
    (mul (var 0) (mul (sub (mul (var 1) (var 3)) (mul (var 2) (var 4))) (sub (mul (var 1) (var 3)) (mul (var 2) (var 4)))))
    (mul (sub (mul (var 1) (var 3)) (mul (var 2) (var 4))) (mul (var 0) (sub (mul (var 1) (var 3)) (mul (var 2) (var 4))))) refl
    ∙ ap (λ (k : ℤ). u j *ℤ k) (sym (by_weight j lj))
    ∙ ring (dy ∷ dx ∷ cx j ∷ cy j ∷ z j ∷ []) (mul (sub (mul (var 0) (var 2)) (mul (var 1) (var 3))) (var 4))
    (sub (mul (var 0) (mul (var 2) (var 4))) (mul (var 1) (mul (var 3) (var 4)))) refl)
    ∙ total-sub m (λ j. dy *ℤ (cx j *ℤ z j)) (λ j. dx *ℤ (cy j *ℤ z j))
    ∙ (let p = total-scale m dy (λ j. cx j *ℤ z j) in let o = total-scale m dx (λ j. cy j *ℤ z j) in omega (arith, ints)) in
    let rows_x : total m (λ j. cx j *ℤ z j) ≡ total rx (λ i. lx i *ℤ dot m (ax i) z) = dual m rx ax lx z in
    let rows_y : total m (λ j. cy j *ℤ z j) ≡ total ry (λ i. ly i *ℤ dot m (ay i) z) = dual m ry ay ly z in
    let low : total rx (λ i. lx i *ℤ dot m (ax i) z) ≤ℤ total rx (λ i. pos 0) = total-le rx (λ i. lx i *ℤ dot m (ax i) z) (λ i. pos 0) hx in
    let none : total rx (λ i. pos 0) ≡ pos 0 = total-zero rx (λ i. pos 0) (λ i li. refl) in
    let high : pos 0 ≤ℤ total ry (λ i. ly i *ℤ dot m (ay i) z) = total-nonneg ry (λ i. ly i *ℤ dot m (ay i) z) hy in
    let neg : pos 0 ≤ℤ (dy *ℤ (pos 0 -ℤ total m (λ j. cx j *ℤ z j))) = mul_nonneg dy (pos 0 -ℤ total m (λ j. cx j *ℤ z j))
    (let b = sy.positive in omega (arith, ints)) (omega (arith, ints)) in
    let neg' : dy *ℤ (pos 0 -ℤ total m (λ j. cx j *ℤ z j)) ≡ pos 0 -ℤ dy *ℤ total m (λ j. cx j *ℤ z j)
    = ring (dy ∷ total m (λ j. cx j *ℤ z j) ∷ []) (mul (var 0) (sub (con (pos 0)) (var 1))) (sub (con (pos 0)) (mul (var 0) (var 1))) refl in
    let up : pos 0 ≤ℤ (dx *ℤ total m (λ j. cy j *ℤ z j)) = mul_nonneg dx (total m (λ j. cy j *ℤ z j)) (let b = sx.positive in omega (arith, ints))
    (omega (arith, ints)) in
    let squares : (j : ℕ) → j < m → pos 0 ≤ℤ q j = λ j lj. mul_nonneg (weight j) (u j *ℤ u j) (let b = wp j lj in omega (arith, ints)) (square_nonneg (u j)) in
    let one : q j ≤ℤ total m q = term-le m q squares j lt in
    let flat : u j ≡ pos 0 = nothing_left (weight j) (u j) (wp j lt) (omega (arith, ints)) in
    by_weight j lt ∙ ap (λ (k : ℤ). weight j *ℤ k) flat ∙ omega (arith, ints)

-- dot-gap at a row that is tight at x, and the other way round
at_tight_x : (m : ℕ) (a : ℕ → ℤ) (b dx dy : ℤ) (x y : ℕ → ℤ) → dot m a x ≡ dx *ℤ b → dot m a (gap_of dy y dx x) ≡ dx *ℤ (dy *ℤ b -ℤ dot m a y)
at_tight_x m a b dx dy x y t =
    dot-gap m a dy y dx x
    ∙ (let p = ap (λ (k : ℤ). dy *ℤ k) t in
    let f : dy *ℤ (dx *ℤ b) -ℤ dx *ℤ dot m a y ≡ dx *ℤ (dy *ℤ b -ℤ dot m a y) = ring (dy ∷ dx ∷ b ∷ dot m a y ∷ [])
    (sub (mul (var 0) (mul (var 1) (var 2))) (mul (var 1) (var 3))) (mul (var 1) (sub (mul (var 0) (var 2)) (var 3))) refl in
    omega (arith, ints))

at_tight_y : (m : ℕ) (a : ℕ → ℤ) (b dx dy : ℤ) (x y : ℕ → ℤ) → dot m a y ≡ dy *ℤ b → dot m a (gap_of dy y dx x) ≡ dy *ℤ (dot m a x -ℤ dx *ℤ b)
at_tight_y m a b dx dy x y t =
    dot-gap m a dy y dx x
    ∙ (let p = ap (λ (k : ℤ). dx *ℤ k) t in
    let f : dy *ℤ dot m a x -ℤ dx *ℤ (dy *ℤ b) ≡ dy *ℤ (dot m a x -ℤ dx *ℤ b) = ring (dy ∷ dx ∷ b ∷ dot m a x ∷ [])
    (sub (mul (var 0) (var 3)) (mul (var 1) (mul (var 0) (var 2)))) (mul (var 0) (sub (var 3) (mul (var 1) (var 2)))) refl in
    omega (arith, ints))

nonpos_product : (a b : ℤ) → pos 0 ≤ℤ a → b ≤ℤ pos 0 → (a *ℤ b) ≤ℤ pos 0
nonpos_product a b h k =
    let p = mul_nonneg a (pos 0 -ℤ b) h (omega (arith, ints)) in
    let f : a *ℤ (pos 0 -ℤ b) ≡ pos 0 -ℤ a *ℤ b = ring (a ∷ b ∷ []) (mul (var 0) (sub (con (pos 0)) (var 1))) (sub (con (pos 0)) (mul (var 0) (var 1))) refl in
    omega (arith, ints)

-- a place is before another, the same, or after it
pub cases_at : (i k : ℕ) → (i < k) ⊎ ((i ≡ k) ⊎ (k < i))
cases_at zero zero = inr (inl refl)
cases_at zero (suc k) = inl (omega arith)
cases_at (suc i) zero = inr (inr (omega arith))
cases_at (suc i) (suc k) = lift i k (cases_at i k)
  where
    lift : (i k : ℕ) → (i < k) ⊎ ((i ≡ k) ⊎ (k < i)) → (suc i < suc k) ⊎ ((suc i ≡ suc k) ⊎ (suc k < suc i))
    lift i k (inl h) = inl (omega arith)
    lift i k (inr (inl e)) = inr (inl (ap suc e))
    lift i k (inr (inr h)) = inr (inr (omega arith))

-- the multiplier of the newly forced row k is positive. x has the rows forced before, then row k, then taken rows; y has the rows forced before and taken rows, and violates row k
pub newly_forced : (m k : ℕ) (target weight : ℕ → ℤ) → ((j : ℕ) → j < m → pos 0 <ℤ weight j)
    → (rx : ℕ) (ax : ℕ → ℕ → ℤ) (bx : ℕ → ℤ) (dx : ℤ) (x lx : ℕ → ℤ) → Solved m rx ax dx x lx target weight → Taken m rx (suc k) ax bx dx x lx
    → (ry : ℕ) (ay : ℕ → ℕ → ℤ) (by : ℕ → ℤ) (dy : ℤ) (y ly : ℕ → ℤ) → Solved m ry ay dy y ly target weight → Taken m ry k ay by dy y ly
    → ((i : ℕ) → i < k → dot m (ax i) y ≡ dy *ℤ bx i)
    → ((i : ℕ) → i < k → dot m (ay i) x ≡ dx *ℤ by i)
    → ((i : ℕ) → k < i → i < rx → (dy *ℤ bx i) ≤ℤ dot m (ax i) y)
    → ((i : ℕ) → k ≤ i → i < ry → (dx *ℤ by i) ≤ℤ dot m (ay i) x)
    → k < rx → dot m (ax k) y <ℤ (dy *ℤ bx k) → pos 0 <ℤ lx k
newly_forced m k target weight wp rx ax bx dx x lx sx tx ry ay by dy y ly sy ty fx fy ox oy kr violated =
    let z : ℕ → ℤ = gap_of dy y dx x in
    let px : pos 0 ≤ℤ dx = (let b = sx.positive in omega (arith, ints)) in
    let py : pos 0 ≤ℤ dy = (let b = sy.positive in omega (arith, ints)) in
    let at_k : dot m (ax k) z ≡ dx *ℤ (dy *ℤ bx k -ℤ dot m (ax k) y) = at_tight_x m (ax k) (bx k) dx dy x y (tx.tight k kr) in
    let up_k : pos 0 <ℤ dot m (ax k) z = (let b = mul_positive dx (dy *ℤ bx k -ℤ dot m (ax k) y) sx.positive (omega (arith, ints)) in omega (arith, ints)) in
    by_lt_z (pos 0) (lx k) (λ h. h) (λ (low : lx k ≤ℤ pos 0).
    let hx : (i : ℕ) → i < rx → (lx i *ℤ dot m (ax i) z) ≤ℤ pos 0 = λ i li. elim (cases_at i k) [
      | inl b ↦ (let e : dot m (ax i) z ≡ pos 0 = at_tight_x m (ax i) (bx i) dx dy x y (tx.tight i li)
          ∙ times_zero dx (dy *ℤ bx i -ℤ dot m (ax i) y) (let f = fx i b in omega (arith, ints)) in
          let f = times_zero (lx i) (dot m (ax i) z) e in omega (arith, ints))
      | inr c ↦ elim c [
        | inl e ↦ (let p : lx i *ℤ dot m (ax i) z ≡ lx k *ℤ dot m (ax k) z = ap (λ (n : ℕ). lx n *ℤ dot m (ax n) z) e in
            let o = nonpos_product (dot m (ax k) z) (lx k) (omega (arith, ints)) low in
            let s = *ℤ_comm (dot m (ax k) z) (lx k) in omega (arith, ints))
        | inr b ↦ nonpos_product (lx i) (dot m (ax i) z) (tx.sign i (omega arith) li)
            (let e = at_tight_x m (ax i) (bx i) dx dy x y (tx.tight i li) in
            let o = nonpos_product dx (dy *ℤ bx i -ℤ dot m (ax i) y) px (let f = ox i b li in omega (arith, ints)) in omega (arith, ints))
      ]
    ] in
    let hy : (i : ℕ) → i < ry → pos 0 ≤ℤ (ly i *ℤ dot m (ay i) z) = λ i li. elim (cases_at i k) [
      | inl b ↦ (let e : dot m (ay i) z ≡ pos 0 = at_tight_y m (ay i) (by i) dx dy x y (ty.tight i li)
          ∙ times_zero dy (dot m (ay i) x -ℤ dx *ℤ by i) (let f = fy i b in omega (arith, ints)) in
          let f = times_zero (ly i) (dot m (ay i) z) e in omega (arith, ints))
      | inr c ↦ (let ki : k ≤ i = elim c [ inl e ↦ omega arith | inr b ↦ omega arith ] in
          mul_nonneg (ly i) (dot m (ay i) z) (ty.sign i ki li)
          (let e = at_tight_y m (ay i) (by i) dx dy x y (ty.tight i li) in
          let o = mul_nonneg dy (dot m (ay i) x -ℤ dx *ℤ by i) py (let f = oy i ki li in omega (arith, ints)) in omega (arith, ints)))
    ] in
    let flat : (j : ℕ) → j < m → z j ≡ pos 0 = coincide m target weight wp rx ax dx x lx sx ry ay dy y ly sy hx hy in
    let none : dot m (ax k) z ≡ pos 0 = total-zero m (λ j. ax k j *ℤ z j) (λ j lj. times_zero (ax k j) (z j) (flat j lj)) in
    absurd (omega (arith, ints)))
