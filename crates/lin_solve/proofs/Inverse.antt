-- A square matrix that sends nothing but 0 to 0: each right side has a solution, and rows that clear all columns but one give it.
use Rattle.std.proofs.Common.{◌≡◌, ◌≢◌, ℕ, zero, suc, ◌*◌, ◌^◌, ◌<◌, ◌≤◌, ℤ, pos, ◌+ℤ◌, ◌*ℤ◌, neg_ℤ, refl, sym, ap, ◌∙◌, arith, List, [], ◌∷◌, inl, inr, length}
use Rattle.std.proofs.lemmas.Int.{ints}
use Rattle.std.proofs.lemmas.Bool.{cases_eq}
use Rattle.std.proofs.Math.IntN.{*ℤ_comm, *ℤ-zero}
use Rattle.std.proofs.Math.Nat.{pow-zero, pow-suc}
use Rattle.wide_num.proofs.Ints.{lin, mul-neg, mul-zero_cases, mul_cancel, swap_mul}
use Rattle.wide_num.proofs.Sums.{dot-same, dot-scale, dot-through, total-first, total-one}
use Rattle.wide_num.specs.Sums.{dot}
use Rattle.lin_solve.proofs.Siegel.{Solves, room, box, siegel, Solution}
use Rattle.lin_solve.specs.Bounds.{nat_total, size}
use Rattle.lin_solve.proofs.Small.{SizesWithin, room_below, crowd}

-- the first m rows of a matrix
abbrev pub rows_of : ℕ → (ℕ → ℕ → ℤ) → List (ℕ → ℤ)
rows_of zero a = []
rows_of (suc m) a = a zero ∷ rows_of m (λ (k : ℕ). a (suc k))

-- the first m rows are m in number
pub length-rows_of : (m : ℕ) (a : ℕ → ℕ → ℤ) → length (rows_of m a) ≡ m
length-rows_of zero a = refl
length-rows_of (suc m) a = ap suc (length-rows_of m (λ (k : ℕ). a (suc k)))

-- a solution of the first m rows is sent to 0 by each of them
pub Solves-at : (n m : ℕ) (a : ℕ → ℕ → ℤ) (z : ℕ → ℤ) → Solves n z (rows_of m a) → (k : ℕ) → k < m → dot n (a k) z ≡ pos 0
Solves-at n zero a z h k l = absurd (omega arith)
Solves-at n (suc m) a z h zero l = h.0
Solves-at n (suc m) a z h (suc k) l = Solves-at n m (λ (i : ℕ). a (suc i)) z h.1 k (omega arith)

-- what each of the first m rows sends to 0 is a solution of them all
pub Solves-all : (n m : ℕ) (a : ℕ → ℕ → ℤ) (z : ℕ → ℤ) → ((k : ℕ) → k < m → dot n (a k) z ≡ pos 0) → Solves n z (rows_of m a)
Solves-all n zero a z h = tt
Solves-all n (suc m) a z h = (h zero (omega arith), Solves-all n m (λ (i : ℕ). a (suc i)) z (λ k l. h (suc k) (omega arith)))

-- sizes within the sum of all
sizes_within : (n m s : ℕ) (a : ℕ → ℕ → ℤ) → nat_total m (λ (k : ℕ). size n (a k)) ≤ s → SizesWithin n s (rows_of m a)
sizes_within n zero s a h = tt
sizes_within n (suc m) s a h = (omega (arith, h), sizes_within n m s (λ (k : ℕ). a (suc k)) (omega (arith, h)))

box_full : (n h : ℕ) → box n (λ (i : ℕ). h) ≡ suc h ^ n
box_full zero h = sym (pow-zero (suc h))
box_full (suc n) h = omega (arith, ap (λ (x : ℕ). suc h * x) (box_full n h), pow-suc (suc h) n)

-- fewer rows than unknowns: some solution isn't zero
pub few_rows : (n m : ℕ) (a : ℕ → ℕ → ℤ) → m < n → (u : ℕ → ℕ) × Solution n u (rows_of m a)
few_rows n m a l =
    let s : ℕ = suc (nat_total m (λ (k : ℕ). size n (a k))) in (
      λ (i : ℕ). s ^ m,
      siegel n (λ (i : ℕ). s ^ m) (rows_of m a) (enough (suc (nat_total m (λ (k : ℕ). size n (a k)))) (omega arith)
          (sizes_within n m (suc (nat_total m (λ (k : ℕ). size n (a k)))) a (omega arith))),
    )
  where
    enough : (s : ℕ) → 1 ≤ s → SizesWithin n s (rows_of m a) → room n (λ (i : ℕ). s ^ m) (rows_of m a) < box n (λ (i : ℕ). s ^ m)
    enough s one h =
        let r : room n (λ (i : ℕ). s ^ m) (rows_of m a) ≤ suc (s * s ^ m) ^ length (rows_of m a) = room_below n s (s ^ m) (λ (i : ℕ). s ^ m) (rows_of m a)
        (λ i l. omega arith) h in
        let e : suc (s * s ^ m) ^ length (rows_of m a) ≡ suc (s * s ^ m) ^ m = ap (λ (x : ℕ). suc (s * s ^ m) ^ x) (length-rows_of m a) in
        let c : suc (s * s ^ m) ^ m < suc (s ^ m) ^ n = crowd s m n one l in
        omega (arith, r, e, c, box_full n (s ^ m))

-- the matrix sends only 0 to 0
abbrev pub Injective : ℕ → (ℕ → ℕ → ℤ) → Type 0
Injective n a = (z : ℕ → ℤ) → ((k : ℕ) → k < n → dot n (a k) z ≡ pos 0) → (i : ℕ) → i < n → z i ≡ pos 0

pub record Solvable (n : ℕ) (a : ℕ → ℕ → ℤ) (b : ℕ → ℤ) : Type 0 where
  pub d : ℤ
  pub y : ℕ → ℤ
  pub apart : d ≢ pos 0
  pub is : (k : ℕ) → k < n → dot n (a k) y ≡ d *ℤ b k

-- b before each row
abbrev beside : (ℕ → ℕ → ℤ) → (ℕ → ℤ) → ℕ → ℕ → ℤ
beside a b k zero = b k
beside a b k (suc i) = a k i

-- if the matrix sends only 0 to 0, each right side has a solution over some d other than 0
pub solvable : (n : ℕ) (a : ℕ → ℕ → ℤ) → Injective n a → (b : ℕ → ℤ) → Solvable n a b
solvable n a inj b =
    let w = few_rows (suc n) n (beside a b) (omega arith) in
    let z : ℕ → ℤ = w.1.z in
    let row : (k : ℕ) → k < n → b k *ℤ w.1.z zero +ℤ dot n (a k) (λ (i : ℕ). w.1.z (suc i)) ≡ pos 0 =
    λ k l. sym (total-first n (λ (i : ℕ). beside a b k i *ℤ w.1.z i)) ∙ Solves-at (suc n) n (beside a b) w.1.z w.1.solves k l in
    record {
      d = neg_ℤ (w.1.z zero);
      y = λ (i : ℕ). w.1.z (suc i);
      apart = λ e.
          let z0 : w.1.z zero ≡ pos 0 = omega (arith, ints, e) in
          let rest : (i : ℕ) → i < n → w.1.z (suc i) ≡ pos 0 =
          inj (λ (i : ℕ). w.1.z (suc i)) (λ k l. no_first (b k) (w.1.z zero) (dot n (a k) (λ (i : ℕ). w.1.z (suc i))) z0 (row k l)) in
          nowhere w.1.z w.1.place w.1.below z0 rest w.1.apart;
      is = λ k l. other_side (b k) (w.1.z zero) (dot n (a k) (λ (i : ℕ). w.1.z (suc i))) (row k l);
    }
  where
    no_first : (b z d : ℤ) → z ≡ pos 0 → b *ℤ z +ℤ d ≡ pos 0 → d ≡ pos 0
    no_first b z d e h = omega (arith, lin, ap (λ (x : ℤ). b *ℤ x) e, *ℤ-zero b, h)

    other_side : (b z d : ℤ) → b *ℤ z +ℤ d ≡ pos 0 → d ≡ neg_ℤ z *ℤ b
    other_side b z d h = omega (arith, lin, *ℤ_comm (neg_ℤ z) b, mul-neg b z, h)

    nowhere : (z : ℕ → ℤ) (p : ℕ) → p < suc n → z zero ≡ pos 0 → ((i : ℕ) → i < n → z (suc i) ≡ pos 0) → z p ≢ pos 0 → ⊥
    nowhere z zero l e h ne = ne e
    nowhere z (suc p) l e h ne = ne (h p (omega arith))

-- f clears all columns but the one at i
pub record Clears (n : ℕ) (a : ℕ → ℕ → ℤ) (f : ℕ → ℤ) (i : ℕ) : Type 0 where
  pub place : ℕ
  pub below : place < n
  pub apart : f place ≢ pos 0
  pub clear : (k : ℕ) → k < n → k ≢ i → dot n f (λ (m : ℕ). a m k) ≡ pos 0

-- 1 at place p and 0 at all others
pub unit : ℕ → ℕ → ℤ
unit p k = elim (cases_eq k p) [ inl e ↦ pos 1 | inr ne ↦ pos 0 ]

-- the unit row of p is 1 at p
pub unit-same : (p : ℕ) → unit p p ≡ pos 1
unfolding unit
unit-same p = elim (cases_eq p p) as (λ c. elim c as (λ _. ℤ) [ inl e ↦ pos 1 | inr ne ↦ pos 0 ] ≡ pos 1) [ inl e ↦ refl | inr ne ↦ absurd (ne refl) ]

-- the unit row of p is 0 at each place other than p
pub unit-other : (p k : ℕ) → k ≢ p → unit p k ≡ pos 0
unfolding unit
unit-other p k h = elim (cases_eq k p) as (λ c. elim c as (λ _. ℤ) [ inl e ↦ pos 1 | inr ne ↦ pos 0 ] ≡ pos 0) [ inl e ↦ absurd (h e) | inr ne ↦ refl ]

-- the product of f with the matrix' product
pub pick : (n : ℕ) (a : ℕ → ℕ → ℤ) (f z : ℕ → ℤ) (i : ℕ) → i < n → ((k : ℕ) → k < n → k ≢ i → dot n f (λ (m : ℕ). a m k) ≡ pos 0)
    → dot n f (λ (m : ℕ). dot n (a m) z) ≡ dot n f (λ (m : ℕ). a m i) *ℤ z i
pick n a f z i l h =
    dot-through n n f a z
    ∙ total-one n i (λ (k : ℕ). dot n f (λ (m : ℕ). a m k) *ℤ z k) l
    (λ k b ne. *ℤ_comm (dot n f (λ (m : ℕ). a m k)) (z k) ∙ ap (λ (x : ℤ). z k *ℤ x) (h k b ne) ∙ *ℤ-zero (z k))

-- if the matrix sends only 0 to 0, a clearing row and the column that it leaves have a product other than 0
pub pivot : (n : ℕ) (a : ℕ → ℕ → ℤ) → Injective n a → (f : ℕ → ℤ) (i : ℕ) → i < n → Clears n a f i → dot n f (λ (m : ℕ). a m i) ≢ pos 0
pivot n a inj f i l c e =
    let w : Solvable n a (unit c.place) = solvable n a inj (unit c.place) in
    let left : dot n f (λ (m : ℕ). dot n (a m) w.y) ≡ pos 0 =
    pick n a f w.y i l c.clear ∙ *ℤ_comm (dot n f (λ (m : ℕ). a m i)) (w.y i) ∙ ap (λ (x : ℤ). w.y i *ℤ x) e ∙ *ℤ-zero (w.y i) in
    let right : dot n f (λ (m : ℕ). dot n (a m) w.y) ≡ w.d *ℤ f c.place =
    dot-same n f (λ (m : ℕ). dot n (a m) w.y) (λ (m : ℕ). w.d *ℤ unit c.place m) w.is
    ∙ dot-scale n w.d f (unit c.place)
    ∙ ap (λ (x : ℤ). w.d *ℤ x)
    (total-one n c.place (λ (m : ℕ). f m *ℤ unit c.place m) c.below (λ m b ne. ap (λ (x : ℤ). f m *ℤ x) (unit-other c.place m ne) ∙ *ℤ-zero (f m))
    ∙ times_one (f c.place) (unit c.place c.place) (unit-same c.place)) in
    c.apart (mul-zero_cases w.d (f c.place) (sym right ∙ left) w.apart)
  where
    times_one : (x y : ℤ) → y ≡ pos 1 → x *ℤ y ≡ x
    times_one x y h = ap (λ (k : ℤ). x *ℤ k) h ∙ omega (arith, ints)

-- the values over d that clearing rows give are a solution
pub solution : (n : ℕ) (a : ℕ → ℕ → ℤ) → Injective n a → (b x : ℕ → ℤ) (d : ℤ) →
    ((i : ℕ) → i < n → (f : ℕ → ℤ) × Clears n a f i × (dot n f (λ (m : ℕ). a m i) *ℤ x i ≡ d *ℤ dot n f b)) →
    (k : ℕ) → k < n → dot n (a k) x ≡ d *ℤ b k
solution n a inj b x d h k l =
    let w : Solvable n a b = solvable n a inj b in
    let same : (i : ℕ) → i < n → w.d *ℤ x i ≡ d *ℤ w.y i =
    λ i li.
    let v = h i li in
    let fy : dot n v.0 (λ (m : ℕ). a m i) *ℤ w.y i ≡ w.d *ℤ dot n v.0 b =
    sym (pick n a v.0 w.y i li v.1.clear)
    ∙ dot-same n v.0 (λ (m : ℕ). dot n (a m) w.y) (λ (m : ℕ). w.d *ℤ b m) w.is
    ∙ dot-scale n w.d v.0 b in
    mul_cancel (dot n v.0 (λ (m : ℕ). a m i)) (w.d *ℤ x i) (d *ℤ w.y i) (pivot n a inj v.0 i li v.1)
    (cross (dot n v.0 (λ (m : ℕ). a m i)) w.d (x i) d (w.y i) (dot n v.0 b) v.2 fy) in
    mul_cancel w.d (dot n (a k) x) (d *ℤ b k) w.apart
    (sym (dot-scale n w.d (a k) x)
    ∙ dot-same n (a k) (λ (i : ℕ). w.d *ℤ x i) (λ (i : ℕ). d *ℤ w.y i) same
    ∙ dot-scale n d (a k) w.y
    ∙ ap (λ (t : ℤ). d *ℤ t) (w.is k l)
    ∙ swap_mul d w.d (b k))
  where
    cross : (p e x d y s : ℤ) → p *ℤ x ≡ d *ℤ s → p *ℤ y ≡ e *ℤ s → p *ℤ (e *ℤ x) ≡ p *ℤ (d *ℤ y)
    cross p e x d y s h k = swap_mul p e x ∙ ap (λ (t : ℤ). e *ℤ t) h ∙ swap_mul e d s ∙ ap (λ (t : ℤ). d *ℤ t) (sym k) ∙ swap_mul d p y
