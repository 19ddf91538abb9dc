-- What the numbers of one row and one coordinate come to, and their sizes.
use Rattle.std.proofs.Common.{FitsSigned, List, [], ap, arith, inl, inr, length, of_z, refl, subst, suc, sym, to_z, unsigned_abs, zero, ℕ, ◌*◌, ◌<◌}
use Rattle.std.proofs.Common.{◌^◌, ◌∙◌, ◌∷◌, ◌≡◌, ◌≤◌, ◌⊎◌}
use Rattle.std.specs.Prelude.{ℤ, pos, ◌+ℤ◌, ◌-ℤ◌, ◌*ℤ◌, ◌≤ℤ◌, ◌<ℤ◌, min}
use Rattle.std.specs.Int.{bit_at, w128}
use Rattle.std.specs.Int.Bits.{bit_and}
use Rattle.std.proofs.lemmas.Int.{ints, fits_signed_from_abs, to_z_pos, unsigned_abs-mul}
use Rattle.std.proofs.lemmas.Nat.{mul-le}
use Rattle.std.proofs.lemmas.Nat.Bits.{bit_at_and, bit_at-lt}
use Rattle.far_num.specs.Members.{holds}
use Rattle.wide_num.specs.Sums.{dot, nth, total}
use Rattle.wide_num.proofs.Sums.{total-add, total-zero}
use Rattle.projection_laws.proofs.Ring.{var, con, add, sub, mul, ring}
use Rattle.projection_laws.proofs.Sums.{term-le}
use Rattle.nearest_point.specs.Problem.{AreTargets}
use Rattle.nearest_point.specs.Found.{common}
use Rattle.nearest_point.proofs.Sizes.{back}

holds_or : (s j : ℕ) → (holds s j ≡ pos 0) ⊎ (holds s j ≡ pos 1)
holds_or s j = elim (bit_or (bit_at s j) (bit_at-lt s j)) [ inl e ↦ inl (ap pos e) | inr e ↦ inr (ap pos e) ]
  where
    bit_or : (b : ℕ) → b < 2 → (b ≡ 0) ⊎ (b ≡ 1)
    bit_or zero lt = inl refl
    bit_or (suc zero) lt = inr refl
    bit_or (suc (suc b)) lt = absurd (omega arith)

-- a member's number, or 0
pub part_or : (s j : ℕ) (x : ℤ) → (holds s j *ℤ x ≡ pos 0) ⊎ (holds s j *ℤ x ≡ x)
part_or s j x = elim (holds_or s j) [
  | inl e ↦ inl (ap (λ (z : ℤ). z *ℤ x) e ∙ omega (arith, ints))
  | inr e ↦ inr (ap (λ (z : ℤ). z *ℤ x) e ∙ omega (arith, ints))
]

-- a sum of numbers below 0 by at most t
pub sum_below : (t k s : ℕ) (l : ℕ → ℤ) → ((j : ℕ) → j < k → ((pos 0 -ℤ pos t) ≤ℤ l j) × (l j ≤ℤ pos 0))
    → (dot k (holds s) l ≤ℤ pos 0) × ((pos 0 -ℤ pos (k * t)) ≤ℤ dot k (holds s) l)
sum_below t zero s l h = (omega (arith, ints), omega (arith, ints))
sum_below t (suc k) s l h = more (sum_below t k s l (λ j lt. h j (omega arith))) (h k (omega arith)) (part_or s k (l k))
  where
    more : (dot k (holds s) l ≤ℤ pos 0) × ((pos 0 -ℤ pos (k * t)) ≤ℤ dot k (holds s) l) → ((pos 0 -ℤ pos t) ≤ℤ l k) × (l k ≤ℤ pos 0)
        → (holds s k *ℤ l k ≡ pos 0) ⊎ (holds s k *ℤ l k ≡ l k)
        → (dot (suc k) (holds s) l ≤ℤ pos 0) × ((pos 0 -ℤ pos (suc k * t)) ≤ℤ dot (suc k) (holds s) l)
    more p e (inl f) = let a = p.0 in let b = p.1 in let c = e.0 in let d = e.1 in (omega (arith, ints), omega (arith, ints))
    more p e (inr f) = let a = p.0 in let b = p.1 in let c = e.0 in let d = e.1 in (omega (arith, ints), omega (arith, ints))

-- the sum over some members of numbers that aren't negative
pub some_of : (k s : ℕ) (t : ℕ → ℤ) → ((j : ℕ) → j < k → pos 0 ≤ℤ t j) → (pos 0 ≤ℤ dot k (holds s) t) × (dot k (holds s) t ≤ℤ total k t)
some_of zero s t h = (omega (arith, ints), omega (arith, ints))
some_of (suc k) s t h = more (some_of k s t (λ j lt. h j (omega arith))) (h k (omega arith)) (part_or s k (t k))
  where
    more : (pos 0 ≤ℤ dot k (holds s) t) × (dot k (holds s) t ≤ℤ total k t) → pos 0 ≤ℤ t k → (holds s k *ℤ t k ≡ pos 0) ⊎ (holds s k *ℤ t k ≡ t k)
        → (pos 0 ≤ℤ dot (suc k) (holds s) t) × (dot (suc k) (holds s) t ≤ℤ total (suc k) t)
    more p e (inl f) = let a = p.0 in let b = p.1 in (omega (arith, ints), omega (arith, ints))
    more p e (inr f) = let a = p.0 in let b = p.1 in (omega (arith, ints), omega (arith, ints))

-- no target is above 2^46 in size
pub target_small : (target : List ℤ) → AreTargets target → (j : ℕ) → j < length target → unsigned_abs (nth target j) ≤ 2 ^ 46
target_small target h j lt =
    let a = term-le (length target) (nth target) h.not_negative j lt in
    let b = h.not_negative j lt in
    let c = h.sum in
    omega (arith, ints)

min_bits : (x y : ℕ) → x < 2 → y < 2 → pos (min x y) ≡ pos x *ℤ pos y
min_bits zero zero p q = refl
min_bits zero (suc zero) p q = refl
min_bits (suc zero) zero p q = refl
min_bits (suc zero) (suc zero) p q = refl
min_bits zero (suc (suc y)) p q = absurd (omega arith)
min_bits (suc zero) (suc (suc y)) p q = absurd (omega arith)
min_bits (suc (suc x)) y p q = absurd (omega arith)

holds_both : (a b j : ℕ) → holds (bit_and a b) j ≡ holds a j *ℤ holds b j
holds_both a b j = ap pos (bit_at_and a b j) ∙ min_bits (bit_at a j) (bit_at b j) (bit_at-lt a j) (bit_at-lt b j)

-- what two sets have in common weighs what the set of common members weighs
pub common_is : (m a b : ℕ) (l : ℕ → ℤ) → pos 0 -ℤ dot m (holds (bit_and a b)) l ≡ common m (holds a) (holds b) l
common_is m a b l =
    let c : ℕ → ℤ = λ j. holds a j *ℤ ((pos 0 -ℤ l j) *ℤ holds b j) in
    let d : ℕ → ℤ = λ j. holds (bit_and a b) j *ℤ l j in
    let s : total m (λ j. c j +ℤ d j) ≡ total m c +ℤ total m d = total-add m c d in
    let z : total m (λ j. c j +ℤ d j) ≡ pos 0 = total-zero m (λ j. c j +ℤ d j) (λ j lt.
    ap (λ (w : ℤ). c j +ℤ w *ℤ l j) (holds_both a b j)
    ∙ ring (holds a j ∷ holds b j ∷ l j ∷ []) (add (mul (var 0) (mul (sub (con (pos 0)) (var 2)) (var 1))) (mul (mul (var 0) (var 1)) (var 2)))
    (con (pos 0)) refl) in
    omega (arith, ints)

product_small : (d a : ℤ) → pos 0 <ℤ d → d ≤ℤ pos (320 ^ 4) → unsigned_abs a ≤ 2 ^ 46 → unsigned_abs (d *ℤ a) ≤ 320 ^ 4 * 2 ^ 46
product_small d a p q h =
    let e = unsigned_abs-mul d a in
    let l : unsigned_abs d ≤ 320 ^ 4 = omega (arith, ints) in
    let m = mul-le (unsigned_abs d) (unsigned_abs a) (320 ^ 4) (2 ^ 46) l h in
    omega (arith, e, m)

-- a weight of at most 20 times a sum of at most 6 * 2^106 is at most 120 * 2^106 in size
pub weighed_small : (w : ℕ) (m : ℤ) → w ≤ 20 → unsigned_abs m ≤ 6 * 2 ^ 106 → unsigned_abs (pos w *ℤ m) ≤ 120 * 2 ^ 106
weighed_small w m h k =
    let e = unsigned_abs-mul (pos w) m in
    let p = mul-le w (unsigned_abs m) 20 (6 * 2 ^ 106) h k in
    omega (arith, e, p)

sum_small : (x m : ℤ) → unsigned_abs x ≤ 320 ^ 4 * 2 ^ 46 → unsigned_abs m ≤ 120 * 2 ^ 106 → unsigned_abs (x +ℤ m) < 2 ^ 113
sum_small x m p q = omega (arith, ints)

-- a denominator, a target, a sum of multipliers and a weight
module _ (d a m : ℤ) (w : ℕ) (positive : pos 0 <ℤ d) (small_den : d ≤ℤ pos (320 ^ 4)) (small_target : unsigned_abs a ≤ 2 ^ 46) (light : w ≤ 20)
    (small_sum : unsigned_abs m ≤ 6 * 2 ^ 106) where
  -- the denominator times the target, moved by the weight times the sum, is below 2^113 in size
  pub moved_small : unsigned_abs (d *ℤ a +ℤ pos w *ℤ m) < 2 ^ 113
  moved_small = sum_small (d *ℤ a) (pos w *ℤ m) (product_small d a positive small_den small_target) (weighed_small w m light small_sum)

  -- the code's sum before it is read back
  sum_is : to_z w128 (of_z w128 (to_z w128 (of_z w128 d) *ℤ to_z w128 (of_z w128 a))) +ℤ to_z w128 (of_z w128 (to_z w128 w *ℤ to_z w128 (of_z w128 m)))
      ≡ d *ℤ a +ℤ pos w *ℤ m
  sum_is =
      let d' : to_z w128 (of_z w128 d) ≡ d = omega (arith, ints) in
      let a' : to_z w128 (of_z w128 a) ≡ a = omega (arith, ints) in
      let m' : to_z w128 (of_z w128 m) ≡ m = omega (arith, ints) in
      let w' : to_z w128 w ≡ pos w = to_z_pos w128 w (omega arith) in
      let da = product_small d a positive small_den small_target in
      let wm = weighed_small w m light small_sum in
      let left : to_z w128 (of_z w128 (to_z w128 (of_z w128 d) *ℤ to_z w128 (of_z w128 a))) ≡ d *ℤ a =
      ap (λ (z : ℤ). to_z w128 (of_z w128 (z *ℤ to_z w128 (of_z w128 a)))) d' ∙ ap (λ (z : ℤ). to_z w128 (of_z w128 (d *ℤ z))) a'
      ∙ back (d *ℤ a) (omega (arith, da)) in
      let right : to_z w128 (of_z w128 (to_z w128 w *ℤ to_z w128 (of_z w128 m))) ≡ pos w *ℤ m =
      ap (λ (z : ℤ). to_z w128 (of_z w128 (z *ℤ to_z w128 (of_z w128 m)))) w' ∙ ap (λ (z : ℤ). to_z w128 (of_z w128 (pos w *ℤ z))) m'
      ∙ back (pos w *ℤ m) (omega (arith, wm)) in
      ap (λ (z : ℤ). z +ℤ to_z w128 (of_z w128 (to_z w128 w *ℤ to_z w128 (of_z w128 m)))) left ∙ ap (λ (z : ℤ). d *ℤ a +ℤ z) right

  -- in 128 bits the products add up exactly
  pub moved_back : to_z w128 (of_z w128 (to_z w128 (of_z w128 (to_z w128 (of_z w128 d) *ℤ to_z w128 (of_z w128 a)))
      +ℤ to_z w128 (of_z w128 (to_z w128 w *ℤ to_z w128 (of_z w128 m))))) ≡ d *ℤ a +ℤ pos w *ℤ m
  moved_back = ap (λ (z : ℤ). to_z w128 (of_z w128 z)) sum_is ∙ back (d *ℤ a +ℤ pos w *ℤ m) (let s = moved_small in omega (arith, s))

  -- and their sum fits
  pub moved_fits : FitsSigned w128 (to_z w128 (of_z w128 (to_z w128 (of_z w128 d) *ℤ to_z w128 (of_z w128 a)))
      +ℤ to_z w128 (of_z w128 (to_z w128 w *ℤ to_z w128 (of_z w128 m))))
  moved_fits = subst (FitsSigned w128) (sym sum_is) (fits_signed_from_abs w128 (d *ℤ a +ℤ pos w *ℤ m) (let s = moved_small in omega (arith, s)))
