-- The rows of a basis are small if they are primitive.
use Rattle.std.proofs.Common.{Bool, List, [], ap, arith, cond, false, inl, inr, length, pos, subst, suc, sym, true, unsigned_abs, zero, zero-add, ℕ}
use Rattle.std.proofs.Common.{ℤ, ◌*ℤ◌, ◌*◌, ◌+◌, ◌-ℤ◌, ◌<◌, ◌^◌, ◌∙◌, ◌∷◌, ◌≡◌, ◌≢◌, ◌≤◌}
use Rattle.std.proofs.lemmas.Int.{unsigned_abs-mul}
use Rattle.std.proofs.lemmas.Bool.{cases_eq}
use Rattle.std.proofs.Math.IntN.{*ℤ_comm, *ℤ-zero}
use Rattle.std.proofs.Math.Numerals.{one-add}
use Rattle.wide_num.proofs.Ints.{*ℤ-one, abs-zero, abs_pos, lin, mul_assoc, mul_cancel}
use Rattle.std.proofs.lemmas.Nat.{mul-pow}
use Rattle.std.proofs.Math.Nat.{pow-zero, pow-suc, pow-le-pow_left, pow-le-pow_right, one-le-pow, mul-le-mul, le_trans}
use Rattle.lin_solve.specs.Bounds.{size, nat_total}
use Rattle.wide_num.proofs.Sums.{dot-same, dot-scale}
use Rattle.wide_num.specs.Sums.{dot}
use Rattle.lin_solve.proofs.Siegel.{Solves, nat_total-le, weight, room, box, siegel, Solution}
use Rattle.lin_solve.proofs.Basis.{Basis, Solves-lin, minus_same, minus_zero, held, taken, taken_one}

abbrev pub SizesWithin : ℕ → ℕ → List (ℕ → ℤ) → Type 0
SizesWithin n s [] = Unit {0}
SizesWithin n s (a ∷ rows) = (size n a ≤ s) × SizesWithin n s rows

-- the sum of numbers each times h is their sum times h
pub nat_total-scale : (n h : ℕ) (f : ℕ → ℕ) → nat_total n (λ (i : ℕ). f i * h) ≡ nat_total n f * h
nat_total-scale zero h f = omega arith
nat_total-scale (suc n) h f = omega (arith, nat_total-scale n h (λ (i : ℕ). f (suc i)))

-- with a greater second factor a product is at least as great
pub le_mul : (a b d : ℕ) → b ≤ d → a * b ≤ a * d
le_mul a b d h = grind arith

-- with a greater first factor a product is at least as great
pub mul_le : (a b d : ℕ) → b ≤ d → b * a ≤ d * a
mul_le a b d h = grind arith

weight_below : (n s h : ℕ) (a : ℕ → ℤ) (u : ℕ → ℕ) → ((i : ℕ) → i < n → u i ≤ h) → size n a ≤ s → weight n a u ≤ s * h
weight_below n s h a u below sized =
    omega (
      arith,
      nat_total-le n (λ (i : ℕ). unsigned_abs (a i) * u i) (λ (i : ℕ). unsigned_abs (a i) * h) (λ i l. le_mul (unsigned_abs (a i)) (u i) h (below i l)),
      nat_total-scale n h (λ (i : ℕ). unsigned_abs (a i)),
      mul_le h (size n a) s sized,
    )

-- rows of sizes up to s have on a box with sides up to h at most s h + 1 to the power of the rows as room
pub room_below : (n s h : ℕ) (u : ℕ → ℕ) (rows : List (ℕ → ℤ)) → ((i : ℕ) → i < n → u i ≤ h) → SizesWithin n s rows → room n u rows ≤ suc (s * h) ^ length rows
room_below n s h u [] below sized = omega (arith, pow-zero (suc (s * h)))
room_below n s h u (a ∷ rows) below sized =
    let first : suc (weight n a u) ≤ suc (s * h) = (let w = weight_below n s h a u below sized.0 in omega (arith, w)) in
    let more : room n u rows ≤ suc (s * h) ^ length rows = room_below n s h u rows below sized.1 in
    let both : suc (weight n a u) * room n u rows ≤ suc (s * h) * suc (s * h) ^ length rows = mul-le-mul first more in
    omega (arith, both, pow-suc (suc (s * h)) (length rows))

-- numbers up to h at the taken places, and 0 at the free ones
abbrev pub mask : (ℕ → Bool) → ℕ → ℕ → ℕ
mask free h i = cond (free i) 0 h

box_is : (n h : ℕ) (free : ℕ → Bool) → box n (mask free h) ≡ suc h ^ taken n free
box_is zero h free = sym (pow-zero (suc h))
box_is (suc n) h free = box_more (free zero) h (box n (λ (i : ℕ). mask free h (suc i))) (taken n (λ (i : ℕ). free (suc i)))
    (box_is n h (λ (i : ℕ). free (suc i)))
  where
    box_more : (b : Bool) (h x t : ℕ) → x ≡ suc h ^ t → suc (cond b 0 h) * x ≡ suc h ^ (held b + t)
    box_more true h x t e = omega (arith, e, ap (λ (k : ℕ). suc h ^ k) (zero-add t))
    box_more false h x t e = omega (arith, ap (λ (k : ℕ). suc h * k) e, pow-suc (suc h) t, ap (λ (k : ℕ). suc h ^ k) (one-add t))

-- the count: h is the k-th power of s, there are k equations and more than k places
pub crowd : (s k m : ℕ) → 1 ≤ s → k < m → suc (s * s ^ k) ^ k < suc (s ^ k) ^ m
crowd s k m one lt =
    let wide : suc (s * s ^ k) ≤ s * suc (s ^ k) = omega arith in
    let a : suc (s * s ^ k) ^ k ≤ (s * suc (s ^ k)) ^ k = pow-le-pow_left wide k in
    let b : (s * suc (s ^ k)) ^ k ≡ s ^ k * suc (s ^ k) ^ k = mul-pow s (suc (s ^ k)) k in
    let c : suc (s ^ k) ^ suc k ≤ suc (s ^ k) ^ m = pow-le-pow_right (omega arith) lt in
    let d : suc (s ^ k) ^ suc k ≡ suc (s ^ k) ^ k * suc (s ^ k) = pow-suc (suc (s ^ k)) k in
    let e : 1 ≤ suc (s ^ k) ^ k = one-le-pow k (suc (s ^ k)) (omega arith) in
    omega (arith, a, b, c, d, e)

zero_factor_is : (b : Bool) (h : ℕ) (x : ℤ) → b ≡ true → unsigned_abs x ≤ cond b 0 h → x ≡ pos 0
zero_factor_is true h x e l = abs-zero x (omega arith)
zero_factor_is false h x e l = cc

factor_le : (w q v : ℤ) (h : ℕ) → w ≡ q *ℤ v → q ≢ pos 0 → unsigned_abs w ≤ h → unsigned_abs v ≤ h
factor_le w q v h e ne l = up_by (unsigned_abs q) (unsigned_abs v) (unsigned_abs w) h (abs_pos q ne) (sym (unsigned_abs-mul q v) ∙ ap unsigned_abs (sym e)) l
  where
    up_by : (m n p h : ℕ) → 0 < m → m * n ≡ p → p ≤ h → n ≤ h
    up_by m n p h a b c = grind arith

module _ (n : ℕ) (free one_less : ℕ → Bool) (kept : List (ℕ → ℤ)) (v : ℕ → ℕ → ℤ) (j s : ℕ)
    (b : Basis n free kept v) (lj : j < n) (fj : free j ≡ true)
    (off : one_less j ≡ false) (rest : (i : ℕ) → i ≢ j → one_less i ≡ free i)
    (e : ℕ → ℤ) (primitive : dot n e (v j) ≡ pos 1)
    (one : 1 ≤ s) (sized : SizesWithin n s kept) where
  bound : ℕ
  bound = s ^ length kept

  some : Solution n (mask one_less (s ^ length kept)) kept
  some =
      siegel n (mask one_less (s ^ length kept)) kept
      (let r : room n (mask one_less (s ^ length kept)) kept ≤ suc (s * s ^ length kept) ^ length kept =
      room_below n s (s ^ length kept) (mask one_less (s ^ length kept)) kept (λ i l. mask_le (one_less i) (s ^ length kept)) sized in
      let c : suc (s * s ^ length kept) ^ length kept < suc (s ^ length kept) ^ taken n one_less =
      crowd s (length kept) (taken n one_less) one (omega (arith, b.count, taken_one n j free one_less lj fj off rest)) in
      omega (arith, r, c, box_is n (s ^ length kept) one_less))
    where
      mask_le : (b : Bool) (h : ℕ) → cond b 0 h ≤ h
      mask_le true h = omega arith
      mask_le false h = omega arith

  -- a solution that is 0 at the other free places is a multiple of the basis' row
  multiple : (w : ℕ → ℤ) → Solves n w kept → ((l : ℕ) → l < n → free l ≡ true → l ≢ j → w l ≡ pos 0) → (i : ℕ) → i < n → v j j *ℤ w i ≡ w j *ℤ v j i
  multiple w sw zero_at i li =
      minus_out (v j j *ℤ w i) (w j *ℤ v j i)
      (b.only (λ (i : ℕ). v j j *ℤ w i -ℤ w j *ℤ v j i) (Solves-lin n (v j j) (w j) w (v j) kept sw (b.killed j lj fj))
      (λ l bl f. elim (cases_eq l j) [
        | inl q ↦ subst (λ (k : ℕ). v j j *ℤ w k -ℤ w j *ℤ v j k ≡ pos 0) (sym q) (minus_same (v j j) (w j))
        | inr ne ↦ minus_zero (v j j) (w j) (w l) (v j l) (zero_at l bl f ne) (b.others j l lj bl fj f ne)
      ]) i li)
    where
      minus_out : (x y : ℤ) → x -ℤ y ≡ pos 0 → x ≡ y
      minus_out x y h = omega (arith, lin, h)

  -- the row of j, if it is primitive, has numbers of at most s to the power of the kept rows in size
  pub small : (i : ℕ) → i < n → unsigned_abs (v j i) ≤ s ^ length kept
  small i li =
      let m : (i : ℕ) → i < n → v j j *ℤ some.z i ≡ some.z j *ℤ v j i =
      multiple some.z some.solves (λ l bl f ne. zero_factor_is (one_less l) (s ^ length kept) (some.z l) (rest l ne ∙ f) (some.within l bl)) in
      let q : ℤ = dot n e some.z in
      -- z j = q * v j j
      let zj : some.z j ≡ v j j *ℤ dot n e some.z =
      one_times (some.z j) (dot n e (v j)) primitive
      ∙ sym (dot-scale n (some.z j) e (v j))
      ∙ dot-same n e (λ (i : ℕ). some.z j *ℤ v j i) (λ (i : ℕ). v j j *ℤ some.z i) (λ i l. sym (m i l))
      ∙ dot-scale n (v j j) e some.z in
      let zi : (i : ℕ) → i < n → some.z i ≡ dot n e some.z *ℤ v j i =
      λ i l. mul_cancel (v j j) (some.z i) (dot n e some.z *ℤ v j i) (b.own j lj fj)
      (m i l ∙ ap (λ (x : ℤ). x *ℤ v j i) zj ∙ mul_assoc (v j j) (dot n e some.z) (v j i)) in
      factor_le (some.z i) (dot n e some.z) (v j i) (s ^ length kept) (zi i li)
      (λ q0. some.apart (zi some.place some.below ∙ ap (λ (x : ℤ). x *ℤ v j some.place) q0 ∙ zero_times (v j some.place)))
      (le_trans {m = mask one_less (s ^ length kept) i} (some.within i li) (mask_le (one_less i) (s ^ length kept)))
    where
      one_times : (x d : ℤ) → d ≡ pos 1 → x ≡ x *ℤ d
      one_times x d h = sym (ap (λ (k : ℤ). x *ℤ k) h ∙ *ℤ-one x)

      zero_times : (x : ℤ) → pos 0 *ℤ x ≡ pos 0
      zero_times x = *ℤ_comm (pos 0) x ∙ *ℤ-zero x

      mask_le : (b : Bool) (h : ℕ) → cond b 0 h ≤ h
      mask_le true h = omega arith
      mask_le false h = omega arith
