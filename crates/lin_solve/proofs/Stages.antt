-- The state of the elimination: a flag and a row for each coordinate.
use Rattle.std.proofs.Common.{Bool, List, [], ap, arith, false, get_or, inl, inr, length, pos, refl, replicate, set, subst, suc, sym, true}
use Rattle.std.proofs.Common.{unsigned_abs, zero, ℕ, ℤ, ◌*ℤ◌, ◌-ℤ◌, ◌-◌, ◌<◌, ◌^◌, ◌∙◌, ◌∷◌, ◌≡◌, ◌≢◌, ◌≤◌}
use Rattle.std.proofs.lemmas.Bool.{cases_eq, cases_lt}
use Rattle.std.proofs.lemmas.List.{get_or-set_same, get_or-set_other, get_or_past, get_or-replicate}
use Rattle.std.proofs.Math.Nat.{pow-le-pow_right, le_trans}
use Rattle.lin_solve.specs.Matrix.{row, IsCleared}
use Rattle.lin_solve.specs.Bounds.{size, AreLines, AreSized, IsWithin, HasRoom, bound}
use Rattle.lin_solve.specs.Elimination.{flag, IsPrimitive, Reduces, Ready, IsNext, product, IsUnit, IsKernelRow}
use Rattle.wide_num.specs.Sums.{dot, nth}
use Rattle.lin_solve.proofs.Siegel.{Solves}
use Rattle.lin_solve.proofs.Basis.{Basis, Cleared, start, step, taken, held, taken_one, true_false, Solves-part, minus_same, minus_zero}
use Rattle.lin_solve.proofs.Small.{SizesWithin, small}
use Rattle.wide_num.proofs.Sums.{dot-lin, total-one}
use Rattle.std.proofs.Math.IntN.{*ℤ-zero}

-- the state after the first k lines
pub record State (n k : ℕ) (lines : List (List ℤ)) (free : List Bool) (vs : List (List ℤ)) : Type 0 where
  pub kept : List (ℕ → ℤ)
  pub basis : Basis n (flag free) kept (row vs)
  pub primitive : (j : ℕ) → j < n → flag free j ≡ true → IsPrimitive n (row vs j)
  pub long : (j : ℕ) → j < n → flag free j ≡ true → length (get_or vs j []) ≡ n
  pub sized : (s : ℕ) → AreSized s n lines → SizesWithin n s kept
  pub done : (j : ℕ) → j < n → flag free j ≡ true → IsCleared n k lines (row vs j)
  pub among : (z : ℕ → ℤ) → IsCleared n k lines z → Solves n z kept

-- f without the place j
without : (ℕ → Bool) → ℕ → ℕ → Bool
without f j i = elim (cases_eq i j) [ inl e ↦ false | inr ne ↦ f i ]

without-same : (f : ℕ → Bool) (j : ℕ) → without f j j ≡ false
unfolding without
without-same f j = elim (cases_eq j j) as (λ c. elim c as (λ _. Bool) [ inl e ↦ false | inr ne ↦ f j ] ≡ false) [ inl e ↦ refl | inr ne ↦ absurd (ne refl) ]

without-other : (f : ℕ → Bool) (j i : ℕ) → i ≢ j → without f j i ≡ f i
unfolding without
without-other f j i h = elim (cases_eq i j) as (λ c. elim c as (λ _. Bool) [ inl e ↦ false | inr ne ↦ f i ] ≡ f i) [ inl e ↦ absurd (h e) | inr ne ↦ refl ]

taken_all : (n : ℕ) (f : ℕ → Bool) → taken n f ≤ n
taken_all zero f = omega arith
taken_all (suc n) f = omega (arith, held_le (f zero), taken_all n (λ (i : ℕ). f (suc i)))
  where
    held_le : (b : Bool) → held b ≤ 1
    held_le true = omega arith
    held_le false = omega arith

taken_below : (n j : ℕ) (f : ℕ → Bool) → j < n → f j ≡ true → taken n f < n
taken_below n j f l e = omega (arith, taken_one n j f (without f j) l e (without-same f j) (without-other f j), taken_all n (without f j))

-- each free row is small
pub rows_small : (n s k : ℕ) (lines : List (List ℤ)) (free : List Bool) (vs : List (List ℤ)) → 1 ≤ s → AreSized s n lines → State n k lines free vs →
    (j : ℕ) → j < n → flag free j ≡ true → (i : ℕ) → i < n → unsigned_abs (row vs j i) ≤ s ^ (n - 1)
rows_small n s k lines free vs one sized st j l f i li =
    let c : length st.kept ≤ taken n (flag free) = st.basis.count in
    let t : taken n (flag free) < n = taken_below n j (flag free) l f in
    le_trans {m = s ^ length st.kept}
    (small n (flag free) (without (flag free) j) st.kept (row vs) j s st.basis l f (without-same (flag free) j) (without-other (flag free) j)
    (st.primitive j l f).0 (st.primitive j l f).1 one (st.sized s sized) i li)
    (pow-le-pow_right one (omega (arith, c, t)))

flag-set : (free : List Bool) (p : ℕ) → p < length free → flag (set free p false) p ≡ false
flag-set free p l = get_or-set_same free p false false l

flag-set_other : (free : List Bool) (p i : ℕ) → i ≢ p → flag (set free p false) i ≡ flag free i
flag-set_other free p i ne = get_or-set_other free p i false false ne

flag_short : (free : List Bool) (p : ℕ) → flag free p ≡ true → p < length free
flag_short free p e = elim (cases_lt p (length free)) [ inl l ↦ l | inr g ↦ true_false (flag free p) e (get_or_past free p false g) ]

IsCleared-more : (n k : ℕ) (lines : List (List ℤ)) (z : ℕ → ℤ) → IsCleared n k lines z → dot n (row lines k) z ≡ pos 0 → IsCleared n (suc k) lines z
IsCleared-more n k lines z h e i l = elim (cases_eq i k) [ inl q ↦ subst (λ (j : ℕ). dot n (row lines j) z ≡ pos 0) (sym q) e | inr ne ↦ h i (omega arith) ]

module _ (n k : ℕ) (lines : List (List ℤ)) (free : List Bool) (vs : List (List ℤ)) (st : State n k lines free vs) where
  -- a line that no free row answers changes nothing
  skip : ((j : ℕ) → j < n → flag free j ≡ true → dot n (row lines k) (row vs j) ≡ pos 0) → State n (suc k) lines free vs
  skip none = record {
    kept = st.kept;
    basis = st.basis;
    primitive = st.primitive;
    long = st.long;
    sized = st.sized;
    done = λ j l f. IsCleared-more n k lines (row vs j) (st.done j l f) (none j l f);
    among = λ z h. st.among z (λ i l. h i (omega arith));
  }

  -- at the end: a free row is a row that all lines send to 0, and where none is free only 0 is
  pub closing : ((j : ℕ) → j < n → flag free j ≡ false) → (z : ℕ → ℤ) → IsCleared n k lines z → (i : ℕ) → i < n → z i ≡ pos 0
  closing none z h = st.basis.only z (st.among z h) (λ l b f. true_false (flag free l) f (none l b))

module _ (n k p : ℕ) (lines : List (List ℤ)) (free : List Bool) (vs ws : List (List ℤ)) (st : State n k lines free vs)
    (lp : p < n) (fp : flag free p ≡ true) (apart : dot n (row lines k) (row vs p) ≢ pos 0) (lk : k < length lines)
    (new : (j : ℕ) → j < n → flag free j ≡ true → j ≢ p → Reduces (dot n (row lines k) (row vs p)) (dot n (row lines k) (row vs j)) (get_or vs j [])
    (get_or vs p []) (get_or ws j [])) where
  cleared : (j : ℕ) → j < n → flag free j ≡ true → j ≢ p → Cleared n (row lines k) (row vs j) (row vs p) (row ws j)
  cleared j l f ne =
      let r = new j l f ne in
      record { g = r.g; apart = r.apart; is = λ i b. r.is i (subst (λ (m : ℕ). i < m) (sym (st.long j l f)) b) }

  gone : (j : ℕ) → flag (set free p false) j ≡ true → j ≢ p
  gone j f e = true_false (flag (set free p false) j) f (ap (flag (set free p false)) e ∙ flag-set free p (flag_short free p fp))

  was : (j : ℕ) → flag (set free p false) j ≡ true → flag free j ≡ true
  was j f = sym (flag-set_other free p j (gone j f)) ∙ f

  cleared_at : (j : ℕ) → j < n → flag (set free p false) j ≡ true → (i : ℕ) → i < suc k → dot n (row lines i) (row ws j) ≡ pos 0
  cleared_at j l f i b =
      let c : Cleared n (row lines k) (row vs j) (row vs p) (row ws j) = cleared j l (was j f) (gone j f) in
      (Solves-part n c.g (row ws j) (λ (m : ℕ). dot n (row lines k) (row vs p) *ℤ row vs j m -ℤ dot n (row lines k) (row vs j) *ℤ row vs p m)
      (row lines i ∷ []) c.apart c.is (
        dot-lin n (dot n (row lines k) (row vs p)) (dot n (row lines k) (row vs j)) (row lines i) (row vs j) (row vs p)
            ∙ elim (cases_eq i k) [
              | inl e ↦ subst (λ (m : ℕ). dot n (row lines k) (row vs p) *ℤ dot n (row lines m) (row vs j) -ℤ dot n (row lines k) (row vs j) *ℤ dot n
                  (row lines m) (row vs p) ≡ pos 0) (sym e)
                  (minus_same (dot n (row lines k) (row vs p)) (dot n (row lines k) (row vs j)))
              | inr ne ↦ minus_zero (dot n (row lines k) (row vs p)) (dot n (row lines k) (row vs j)) (dot n (row lines i) (row vs j))
                  (dot n (row lines i) (row vs p))
                  (st.done j l (was j f) i (omega arith)) (st.done p lp fp i (omega arith))
            ],
        tt,
      )).0

  advance : State n (suc k) lines (set free p false) ws
  advance = record {
    kept = row lines k ∷ st.kept;
    basis = step n (flag free) (flag (set free p false)) st.kept (row vs) (row ws) (row lines k) p st.basis lp fp apart
        (flag-set free p (flag_short free p fp)) (flag-set_other free p) cleared;
    primitive = λ j l f.
        let r = new j l (was j f) (gone j f) in
        (r.primitive.0, subst (λ (m : ℕ). dot m r.primitive.0 (row ws j) ≡ pos 1) (st.long j l (was j f)) r.primitive.1);
    long = λ j l f. let r = new j l (was j f) (gone j f) in r.long ∙ st.long j l (was j f);
    sized = λ s h. (h k lk, st.sized s h);
    done = λ j l f i b. cleared_at j l f i b;
    among = λ z h. (h k (omega arith), st.among z (λ i l. h i (omega arith)));
  }

-- the start: all coordinates are free, and their rows are the unit rows
opening : (n : ℕ) (lines : List (List ℤ)) (free : List Bool) (vs : List (List ℤ)) →
    ((j : ℕ) → j < n → flag free j ≡ true) → ((j : ℕ) → j < n → length (get_or vs j []) ≡ n) →
    ((j : ℕ) → j < n → row vs j j ≡ pos 1) → ((j i : ℕ) → j < n → i < n → i ≢ j → row vs j i ≡ pos 0) → State n 0 lines free vs
opening n lines free vs all long one none = record {
  kept = [];
  basis = start n (flag free) (row vs) all one none;
  primitive = λ j l f. (
    row vs j,
    total-one n j (λ (i : ℕ). row vs j i *ℤ row vs j i) l
        (λ i b ne. ap (λ (x : ℤ). row vs j i *ℤ x) (none j i l b ne) ∙ *ℤ-zero (row vs j i)) ∙ ap (λ (x : ℤ). x *ℤ x) (one j l),
  );
  long = λ j l f. long j l;
  sized = λ s h. tt;
  done = λ j l f i b. absurd (omega arith);
  among = λ z h. tt;
}

-- after the first k lines the rows of the free coordinates are ready for line k
pub ready_of :
    (n k : ℕ) (lines : List (List ℤ)) (free : List Bool) (vs : List (List ℤ)) → AreLines n lines → State n k lines free vs → k < length lines
    → length free ≡ n → length vs ≡ n → Ready (get_or lines k []) vs free
ready_of n k lines free vs a st lk ef ev =
    let el : length (get_or lines k []) ≡ n = a.long k lk in
    record {
      limit = a.limit;
      long_line = el ∙ sym ef;
      long_basis = ev ∙ sym ef;
      some = a.some;
      sized = subst (λ (m : ℕ). size m (nth (get_or lines k [])) ≤ a.limit) (sym el) (a.sized k lk);
      room = subst (HasRoom a.limit) (sym el) a.room;
      lengths = λ j l f. st.long j (low j l) f ∙ sym ef;
      small = λ j l f. subst (λ (m : ℕ). IsWithin (bound a.limit m) m (row vs j)) (sym el)
          (rows_small n a.limit k lines free vs a.some a.sized st j (low j l) f);
      own = λ j l f. st.basis.own j (low j l) f;
      others = λ j i l li f g ne. st.basis.others j i (low j l) (low i li) f g ne;
    }
  where
    low : (j : ℕ) → j < length free → j < n
    low j l = subst (λ (m : ℕ). j < m) ef l

-- the product of a row of n numbers with another is the sum of the first n products
pub product_is : (n : ℕ) (a v : List ℤ) → length a ≡ n → product a v ≡ dot n (nth a) (nth v)
product_is n a v e = ap (λ (m : ℕ). dot m (nth a) (nth v)) e

-- one more line, cleared at p
pub advanced : (n k p : ℕ) (lines : List (List ℤ)) (free : List Bool) (vs ws : List (List ℤ)) → AreLines n lines → State n k lines free vs → k < length lines
    → length free ≡ n →
    (p < length free) × (flag free p ≡ true) × (product (get_or lines k []) (get_or vs p []) ≢ pos 0) →
    ((j : ℕ) → j < length free → flag free j ≡ true → j ≢ p → IsNext (get_or lines k []) vs p j (get_or ws j [])) →
    State n (suc k) lines (set free p false) ws
advanced n k p lines free vs ws a st lk ef pv next =
    let e : (v : List ℤ) → product (get_or lines k []) v ≡ dot n (row lines k) (nth v) = λ v. product_is n (get_or lines k []) v (a.long k lk) in
    advance n k p lines free vs ws st (subst (λ (m : ℕ). p < m) ef pv.0) pv.1 (λ z. pv.2 (e (get_or vs p []) ∙ z)) lk
    (λ j l f ne. subst (λ (x : ℤ). Reduces x (dot n (row lines k) (row vs j)) (get_or vs j []) (get_or vs p []) (get_or ws j [])) (e (get_or vs p []))
    (subst (λ (x : ℤ). Reduces (product (get_or lines k []) (get_or vs p [])) x (get_or vs j []) (get_or vs p []) (get_or ws j [])) (e (get_or vs j []))
    (next j (subst (λ (m : ℕ). j < m) (sym ef) l) f ne)))

-- no free row answers the line
pub skipped :
    (n k : ℕ) (lines : List (List ℤ)) (free : List Bool) (vs : List (List ℤ)) → AreLines n lines → State n k lines free vs → k < length lines
    → length free ≡ n →
    ((j : ℕ) → j < length free → flag free j ≡ true → product (get_or lines k []) (get_or vs j []) ≡ pos 0) → State n (suc k) lines free vs
skipped n k lines free vs a st lk ef none =
    skip n k lines free vs st (λ j l f. sym (product_is n (get_or lines k []) (get_or vs j []) (a.long k lk)) ∙ none j (subst (λ (m : ℕ). j < m) (sym ef) l) f)

-- a list of n flags that are all true, with a unit row for each, is the state before any line
pub opened : (n : ℕ) (lines : List (List ℤ)) (free : List Bool) (vs : List (List ℤ)) → free ≡ replicate n true
    → ((j : ℕ) → j < n → IsUnit n j (get_or vs j [])) → State n 0 lines free vs
opened n lines free vs e u =
    opening n lines free vs
    (λ j l. ap (λ (fs : List Bool). flag fs j) e ∙ get_or-replicate n j true false l)
    (λ j l. let w = u j l in w.long) (λ j l. let w = u j l in w.one l) (λ j i l li ne. let w = u j l in w.none i li ne)

-- after all lines the row of a free coordinate is a kernel row of the lines
pub row_found : (n : ℕ) (lines : List (List ℤ)) (free : List Bool) (vs : List (List ℤ)) (j : ℕ) → State n (length lines) lines free vs → j < n
    → flag free j ≡ true → IsKernelRow n lines (get_or vs j [])
row_found n lines free vs j st l f = record {
  long = st.long j l f;
  place = j;
  below = l;
  apart = st.basis.own j l f;
  small = λ limit one h. rows_small n limit (length lines) lines free vs one h st j l f;
  cleared = st.done j l f;
}
