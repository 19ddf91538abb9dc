-- A denominator that shares no factor with its numerators is at most the number of lists of sums.
use Rattle.std.proofs.Common.{ap, arith, inl, inr, neg_ℤ, negsuc, pos, refl, subst, suc, sym, unsigned_abs, zero, ℕ, ℤ, ◌%◌, ◌*ℤ◌, ◌*◌, ◌+ℤ◌, ◌+◌}
use Rattle.std.proofs.Common.{◌-ℤ◌, ◌-◌, ◌/◌, ◌<◌, ◌^◌, ◌∙◌, ◌≡◌, ◌≤◌}
use Rattle.std.proofs.lemmas.Int.{ints}
use Rattle.std.proofs.lemmas.Bool.{cases_lt}
use Rattle.std.proofs.lemmas.Nat.Gcd.{mod-eq-zero_of_dvd}
use Rattle.std.proofs.Math.IntN.{*ℤ_comm, *ℤ-zero}
use Rattle.std.proofs.Math.Nat.{mul-div_cancel_left, pow-zero, pow-suc, div-add-mod, mod-lt, div-lt_iff_lt-mul}
use Rattle.wide_num.proofs.Ints.{*ℤ-one, Combined, combined, lin, mul-add, mul-neg, mul-sub, mul_assoc, mul_cancel, swap_mul}
use Rattle.wide_num.proofs.Sums.{dot-lin, dot-same, dot-scale, dot-scale_left, total-first}
use Rattle.wide_num.specs.Sums.{dot}
use Rattle.lin_solve.proofs.Siegel.{nat_total-le, pos-nat_total, joined_below, joined_same}
use Rattle.lin_solve.specs.Bounds.{nat_total}
use Rattle.lin_solve.proofs.Small.{le_mul, mul_le, nat_total-scale}
use Rattle.lin_solve.proofs.Inverse.{Injective}
use Rattle.lin_solve.proofs.Pigeon.{collide, Collision}

-- ---- the greatest common divisor of d and n numbers, as a combination
pub record Content (n d : ℕ) (p : ℕ → ℤ) : Type 0 where
  pub g : ℕ
  pub rest : ℕ
  pub whole : rest * g ≡ d
  pub x : ℤ
  pub e : ℕ → ℤ
  pub sum_is : x *ℤ pos d +ℤ dot n e p ≡ pos g
  pub part : ℕ → ℤ
  pub parts : (i : ℕ) → i < n → pos g *ℤ part i ≡ p i

-- the combination for a signed number
pub sign_of : ℤ → ℤ
sign_of (pos n) = pos 1
sign_of (negsuc n) = negsuc 0

-- the size of a number is its sign times the number
pub size_is : (z : ℤ) → pos (unsigned_abs z) ≡ sign_of z *ℤ z
unfolding sign_of
size_is (pos n) = omega (arith, ints)
size_is (negsuc n) = omega (arith, ints)

-- a number is its sign times its size
pub from_size : (z : ℤ) → sign_of z *ℤ pos (unsigned_abs z) ≡ z
unfolding sign_of
from_size (pos n) = omega (arith, ints)
from_size (negsuc n) = omega (arith, ints)

-- a sign times itself is 1
pub sign_twice : (c : ℤ) → sign_of c *ℤ sign_of c ≡ pos 1
unfolding sign_of
sign_twice (pos n) = refl
sign_twice (negsuc n) = refl

abbrev front : ℤ → (ℕ → ℤ) → ℕ → ℤ
front x f zero = x
front x f (suc i) = f i

-- d and any n numbers have a common divisor that is a combination of them
pub content : (n d : ℕ) (p : ℕ → ℤ) → Content n d p
content zero d p = record {
  g = d;
  rest = 1;
  whole = omega arith;
  x = pos 1;
  e = λ (i : ℕ). pos 0;
  sum_is = omega (arith, ints);
  part =
      λ (i : ℕ). pos 0;
  parts = λ i l. absurd (omega arith);
}
content (suc n) d p =
    let r : Content n d (λ (i : ℕ). p (suc i)) = content n d (λ (i : ℕ). p (suc i)) in
    let w : Combined r.g (unsigned_abs (p zero)) = combined (unsigned_abs (p zero)) r.g (unsigned_abs (p zero)) (omega arith) in
    record {
      g = w.g;
      rest = r.rest * (r.g / w.g);
      whole = whole_is r.rest (r.g / w.g) w.g r.g d (div_out w.g r.g (mod-eq-zero_of_dvd w.g w.is.0)) r.whole;
      x = w.s *ℤ r.x;
      e = front (w.t *ℤ sign_of (p zero)) (λ (i : ℕ). w.s *ℤ r.e i);
      sum_is = ap (λ (y : ℤ). w.s *ℤ r.x *ℤ pos d +ℤ y) (total-first n (λ (i : ℕ). front (w.t *ℤ sign_of (p zero)) (λ (i : ℕ). w.s *ℤ r.e i) i *ℤ p i))
          ∙ sum_of w.s w.t (p zero) (pos (unsigned_abs (p zero))) (sign_of (p zero)) r.x (pos d) (dot n r.e (λ (i : ℕ). p (suc i))) (pos r.g) (pos w.g)
          (dot n (λ (i : ℕ). w.s *ℤ r.e i) (λ (i : ℕ). p (suc i)))
          (size_is (p zero)) r.sum_is (dot-scale_left n w.s r.e (λ (i : ℕ). p (suc i))) w.sum_is;
      part = front (sign_of (p zero) *ℤ pos (unsigned_abs (p zero) / w.g)) (λ (i : ℕ). pos (r.g / w.g) *ℤ r.part i);
      parts = parts_of n w.g r.g p r.part (r.g / w.g) (div_out w.g r.g (mod-eq-zero_of_dvd w.g w.is.0)) (mod-eq-zero_of_dvd w.g w.is.1) r.parts;
    }
  where
    div_out : (g a : ℕ) → a % g ≡ 0 → a / g * g ≡ a
    div_out g a h = omega (arith, div-add-mod a g)

    whole_is : (r q g b d : ℕ) → q * g ≡ b → r * b ≡ d → r * q * g ≡ d
    whole_is r q g b d h k = omega (arith, ap (λ (x : ℕ). r * x) h)

    sum_of : (s t p0 a0 sg x d y g w sy : ℤ) → a0 ≡ sg *ℤ p0 → x *ℤ d +ℤ y ≡ g → sy ≡ s *ℤ y → s *ℤ g +ℤ t *ℤ a0 ≡ w → s *ℤ x *ℤ d +ℤ (t *ℤ sg *ℤ p0 +ℤ sy) ≡ w
    sum_of s t p0 a0 sg x d y g w sy ha h hs k =
        omega (arith, lin, mul_assoc s x d, mul_assoc t sg p0, ap (λ (v : ℤ). t *ℤ v) ha, hs, mul-add s (x *ℤ d) y, ap (λ (v : ℤ). s *ℤ v) h, k)

    parts_of : (n g b : ℕ) (p part : ℕ → ℤ) (q : ℕ) → q * g ≡ b → unsigned_abs (p zero) % g ≡ 0 → ((i : ℕ) → i < n → pos b *ℤ part i ≡ p (suc i)) → (i : ℕ)
        → i < suc n → pos g *ℤ front (sign_of (p zero) *ℤ pos (unsigned_abs (p zero) / g)) (λ (i : ℕ). pos q *ℤ part i) i ≡ p i
    parts_of n g b p part q h z more zero l =
        swap_mul (pos g) (sign_of (p zero)) (pos (unsigned_abs (p zero) / g))
        ∙ ap (λ (x : ℤ). sign_of (p zero) *ℤ x) (ap pos (let e : g * (unsigned_abs (p zero) / g) ≡ unsigned_abs (p zero) =
        omega (arith, div-add-mod (unsigned_abs (p zero)) g) in e))
        ∙ from_size (p zero)
    parts_of n g b p part q h z more (suc i) l =
        sym (mul_assoc (pos g) (pos q) (part i)) ∙ ap (λ (x : ℤ). x *ℤ part i) (ap pos (let e : g * q ≡ b = omega (arith, h) in e)) ∙ more i (omega arith)

-- ---- the remainder that isn't negative
pub record Rest (d : ℕ) (z : ℤ) : Type 0 where
  pub r : ℕ
  pub q : ℤ
  pub below : r < d
  pub is : z ≡ pos r +ℤ pos d *ℤ q

-- by a d of at least 1, each number leaves a remainder from 0 to below d
pub rest_of : (d : ℕ) (z : ℤ) → 1 ≤ d → Rest d z
rest_of d (pos n) h = record { r = n % d; q = pos (n / d); below = mod-lt n h; is = omega (arith, ints, div-add-mod n d) }
rest_of d (negsuc n) h =
    let l : n % d < d = mod-lt n h in
    record { r = d - suc (n % d); q = negsuc (n / d); below = omega arith; is = omega (arith, ints, div-add-mod n d, l) }

-- ---- lists of numbers below s as one number
code : ℕ → ℕ → (ℕ → ℕ) → ℕ
code zero s w = 0
code (suc n) s w = w zero + suc s * code n s (λ (i : ℕ). w (suc i))

code_below : (n s : ℕ) (w : ℕ → ℕ) → ((i : ℕ) → i < n → w i ≤ s) → code n s w < suc s ^ n
unfolding code
code_below zero s w h = omega (arith, pow-zero (suc s))
code_below (suc n) s w h =
    let l : w zero + suc s * code n s (λ (i : ℕ). w (suc i)) < suc s * suc s ^ n =
    joined_below (w zero) s (code n s (λ (i : ℕ). w (suc i))) (suc s ^ n) (h zero (omega arith))
    (code_below n s (λ (i : ℕ). w (suc i)) (λ i b. h (suc i) (omega arith))) in
    omega (arith, l, pow-suc (suc s) n)

code_same : (n s : ℕ) (w v : ℕ → ℕ) → ((i : ℕ) → i < n → w i ≤ s) → ((i : ℕ) → i < n → v i ≤ s) → code n s w ≡ code n s v → (i : ℕ) → i < n → w i ≡ v i
unfolding code
code_same zero s w v h k e i l = absurd (omega arith)
code_same (suc n) s w v h k e zero l = (joined_same (w zero) s (code n s (λ (i : ℕ). w (suc i))) (v zero) (code n s (λ (i : ℕ). v (suc i)))
    (h zero (omega arith)) (k zero (omega arith)) e).0
code_same (suc n) s w v h k e (suc i) l =
    code_same n s (λ (i : ℕ). w (suc i)) (λ (i : ℕ). v (suc i)) (λ i b. h (suc i) (omega arith)) (λ i b. k (suc i) (omega arith))
    (joined_same (w zero) s (code n s (λ (i : ℕ). w (suc i))) (v zero) (code n s (λ (i : ℕ). v (suc i))) (h zero (omega arith)) (k zero (omega arith)) e).1 i
    (omega arith)

div_below : (d x s : ℕ) → 1 ≤ d → x ≤ s * (d - 1) → 1 ≤ s → x / d ≤ s - 1
div_below d x s one h k =
    let l : x < s * d = subst (λ (k : ℕ). x < s * k) (let e : suc (d - 1) ≡ d = omega arith in e) (under x s (d - 1) h k) in
    let m : x / d < s = (div-lt_iff_lt-mul {k = d} {x = x} {y = s} one).1 l in
    omega arith
  where
    under : (x s e : ℕ) → x ≤ s * e → 1 ≤ s → x < s * suc e
    under x s e h k = omega arith

exact_div : (d x : ℕ) (w : ℤ) → 1 ≤ d → pos x ≡ pos d *ℤ w → d * (x / d) ≡ x
exact_div d x (pos w) h e =
    let k : x ≡ d * w = omega (arith, ints, e) in
    let m : d * w / d ≡ w = mul-div_cancel_left w h in
    ap (λ (y : ℕ). d * (y / d)) k ∙ ap (λ (y : ℕ). d * y) m ∙ sym k
exact_div d x (negsuc w) h e = absurd (omega (arith, ints, e))

small_multiple : (g i j : ℕ) (c : ℤ) → i < g → j < g → pos i -ℤ pos j ≡ pos g *ℤ c → i ≡ j
small_multiple g i j (pos zero) h k e = omega (arith, ints, e)
small_multiple g i j (pos (suc c)) h k e = absurd (omega (arith, ints, e))
small_multiple g i j (negsuc c) h k e = absurd (omega (arith, ints, e))

module _ (n s d : ℕ) (a : ℕ → ℕ → ℕ) (p q b c : ℕ → ℤ) (s1 : 1 ≤ s) (d1 : 1 ≤ d)
    (inj : Injective n (λ (m i : ℕ). pos (a m i)))
    (rows : (m : ℕ) → m < n → nat_total n (a m) ≤ s)
    (is_p : (m : ℕ) → m < n → dot n (λ (i : ℕ). pos (a m i)) p ≡ pos d *ℤ b m)
    (is_q : (m : ℕ) → m < n → dot n (λ (i : ℕ). pos (a m i)) q ≡ pos d *ℤ c m) where
  sum_at : ℕ → ℕ → ℕ → ℤ
  sum_at i j l = pos i *ℤ p l -ℤ neg_ℤ (pos j) *ℤ q l

  rest_at : (i j l : ℕ) → Rest d (sum_at i j l)
  rest_at i j l = rest_of d (sum_at i j l) d1

  value_at : ℕ → ℕ → ℕ → ℕ
  value_at i j m = nat_total n (λ (l : ℕ). a m l * (rest_at i j l).r)

  -- the matrix sends the rests to a multiple of d
  value_is : (i j m : ℕ) → m < n → pos (value_at i j m) ≡ pos d *ℤ (pos i *ℤ b m -ℤ neg_ℤ (pos j) *ℤ c m -ℤ dot n (λ (l : ℕ). pos (a m l))
      (λ (l : ℕ). (rest_at i j l).q))
  unfolding value_at sum_at
  value_is i j m l =
      pos-nat_total n (λ (l : ℕ). a m l * (rest_at i j l).r)
      ∙ dot-same n (λ (l : ℕ). pos (a m l)) (λ (l : ℕ). pos ((rest_at i j l).r)) (λ (l : ℕ). pos 1 *ℤ sum_at i j l -ℤ pos d *ℤ (rest_at i j l).q)
      (λ l b. out (sum_at i j l) (pos ((rest_at i j l).r)) (pos d *ℤ (rest_at i j l).q) (rest_at i j l).is)
      ∙ dot-lin n (pos 1) (pos d) (λ (l : ℕ). pos (a m l)) (sum_at i j) (λ (l : ℕ). (rest_at i j l).q)
      ∙ ap (λ (x : ℤ). pos 1 *ℤ x -ℤ pos d *ℤ dot n (λ (l : ℕ). pos (a m l)) (λ (l : ℕ). (rest_at i j l).q))
      (dot-lin n (pos i) (neg_ℤ (pos j)) (λ (l : ℕ). pos (a m l)) p q)
      ∙ close (pos i) (neg_ℤ (pos j)) (pos d) (b m) (c m) (dot n (λ (l : ℕ). pos (a m l)) p) (dot n (λ (l : ℕ). pos (a m l)) q)
      (dot n (λ (l : ℕ). pos (a m l)) (λ (l : ℕ). (rest_at i j l).q)) (is_p m l) (is_q m l)
    where
      out : (z r k : ℤ) → z ≡ r +ℤ k → r ≡ pos 1 *ℤ z -ℤ k
      out z r k h = omega (arith, lin, *ℤ_comm (pos 1) z, *ℤ-one z, h)

      close : (i j d b c x y k : ℤ) → x ≡ d *ℤ b → y ≡ d *ℤ c → pos 1 *ℤ (i *ℤ x -ℤ j *ℤ y) -ℤ d *ℤ k ≡ d *ℤ (i *ℤ b -ℤ j *ℤ c -ℤ k)
      close i j d b c x y k h e =
          omega (
            arith,
            lin,
            *ℤ_comm (pos 1) (i *ℤ x -ℤ j *ℤ y),
            *ℤ-one (i *ℤ x -ℤ j *ℤ y),
            ap (λ (t : ℤ). i *ℤ t) h,
            ap (λ (t : ℤ). j *ℤ t) e,
            swap_mul i d b,
            swap_mul j d c,
            mul-sub d (i *ℤ b -ℤ j *ℤ c) k,
            mul-sub d (i *ℤ b) (j *ℤ c),
          )

  value_below : (i j m : ℕ) → m < n → value_at i j m ≤ s * (d - 1)
  unfolding value_at
  value_below i j m l =
      omega (
        arith,
        nat_total-le n (λ (l : ℕ). a m l * (rest_at i j l).r) (λ (l : ℕ). a m l * (d - 1))
            (λ l b. le_mul (a m l) ((rest_at i j l).r) (d - 1) (below_pred d ((rest_at i j l).r) (rest_at i j l).below)),
        nat_total-scale n (d - 1) (a m),
        mul_le (d - 1) (nat_total n (a m)) s (rows m l),
      )
    where
      below_pred : (d r : ℕ) → r < d → r ≤ d - 1
      below_pred d r h = omega arith

  -- two pairs with the same quotients have the same rests
  rests_same : (i j i' j' : ℕ) → ((m : ℕ) → m < n → value_at i j m / d ≡ value_at i' j' m / d) → (l : ℕ) → l < n → (rest_at i j l).r ≡ (rest_at i' j' l).r
  unfolding value_at
  rests_same i j i' j' h l bl =
      pos_same ((rest_at i j l).r) ((rest_at i' j' l).r)
      (inj (λ (l : ℕ). pos 1 *ℤ pos ((rest_at i j l).r) -ℤ pos 1 *ℤ pos ((rest_at i' j' l).r))
      (λ m b.
      dot-lin n (pos 1) (pos 1) (λ (l : ℕ). pos (a m l)) (λ (l : ℕ). pos ((rest_at i j l).r)) (λ (l : ℕ). pos ((rest_at i' j' l).r))
      ∙ minus_equal (dot n (λ (l : ℕ). pos (a m l)) (λ (l : ℕ). pos ((rest_at i j l).r)))
      (dot n (λ (l : ℕ). pos (a m l)) (λ (l : ℕ). pos ((rest_at i' j' l).r)))
      (sym (pos-nat_total n (λ (l : ℕ). a m l * (rest_at i j l).r)) ∙ ap pos (same_value m b) ∙ pos-nat_total n (λ (l : ℕ). a m l * (rest_at i' j' l).r)))
      l bl)
    where
      same_value : (m : ℕ) → m < n → value_at i j m ≡ value_at i' j' m
      same_value m b =
          sym (exact_div d (value_at i j m) _ d1 (value_is i j m b))
          ∙ ap (λ (x : ℕ). d * x) (h m b)
          ∙ exact_div d (value_at i' j' m) _ d1 (value_is i' j' m b)

      minus_equal : (x y : ℤ) → x ≡ y → pos 1 *ℤ x -ℤ pos 1 *ℤ y ≡ pos 0
      minus_equal x y e = omega (arith, lin, ap (λ (t : ℤ). pos 1 *ℤ t) e)

      pos_same : (x y : ℕ) → pos 1 *ℤ pos x -ℤ pos 1 *ℤ pos y ≡ pos 0 → x ≡ y
      pos_same x y e = omega (arith, ints, e)

  -- the pairs differ by a multiple of d in each coordinate
  pairs_apart : (i j i' j' : ℕ) → ((l : ℕ) → l < n → (rest_at i j l).r ≡ (rest_at i' j' l).r) → (l : ℕ) → l < n →
      (pos i -ℤ pos i') *ℤ p l +ℤ (pos j -ℤ pos j') *ℤ q l ≡ pos d *ℤ ((rest_at i j l).q -ℤ (rest_at i' j' l).q)
  unfolding sum_at
  pairs_apart i j i' j' h l bl =
      apart_is (pos i) (pos j) (pos i') (pos j') (p l) (q l) (pos d) (pos ((rest_at i j l).r)) (pos ((rest_at i' j' l).r)) ((rest_at i j l).q)
      ((rest_at i' j' l).q)
      (rest_at i j l).is (rest_at i' j' l).is (ap pos (h l bl))
    where
      apart_is : (i j i' j' p q d r r' k k' : ℤ) → i *ℤ p -ℤ neg_ℤ j *ℤ q ≡ r +ℤ d *ℤ k → i' *ℤ p -ℤ neg_ℤ j' *ℤ q ≡ r' +ℤ d *ℤ k' → r ≡ r'
          → (i -ℤ i') *ℤ p +ℤ (j -ℤ j') *ℤ q ≡ d *ℤ (k -ℤ k')
      apart_is i j i' j' p q d r r' k k' e f g =
          omega (
            arith,
            lin,
            e,
            f,
            g,
            mul-sub d k k',
            *ℤ_comm (i -ℤ i') p,
            mul-sub p i i',
            *ℤ_comm p i,
            *ℤ_comm p i',
            *ℤ_comm (j -ℤ j') q,
            mul-sub q j j',
            *ℤ_comm q j,
            *ℤ_comm q j',
            *ℤ_comm (neg_ℤ j) q,
            mul-neg q j,
            *ℤ_comm (neg_ℤ j') q,
            mul-neg q j',
          )

  module _ (x : ℤ) (e f : ℕ → ℤ) (primitive : x *ℤ pos d +ℤ dot n e p +ℤ dot n f q ≡ pos 1) where
    ct : Content n d p
    ct = content n d p

    module _ (i j i' j' : ℕ) (hi : i < ct.rest) (hi' : i' < ct.rest) (hj : j < ct.g) (hj' : j' < ct.g)
        (h : (m : ℕ) → m < n → value_at i j m / d ≡ value_at i' j' m / d) where
      abbrev k : ℕ → ℤ
      k l = (rest_at i j l).q -ℤ (rest_at i' j' l).q

      line : (l : ℕ) → l < n → (pos i -ℤ pos i') *ℤ p l +ℤ (pos j -ℤ pos j') *ℤ q l ≡ pos d *ℤ k l
      line l bl = pairs_apart i j i' j' (rests_same i j i' j' h) l bl

      whole_is : pos ct.g *ℤ pos ct.rest ≡ pos d
      whole_is = ap pos (let w : ct.g * ct.rest ≡ d = omega (arith, ct.whole) in w)

      abbrev inner : ℕ → ℤ
      inner l = pos ct.rest *ℤ k l -ℤ (pos i -ℤ pos i') *ℤ ct.part l

      -- g divides (j - j') q l
      q_part : (l : ℕ) → l < n → (pos j -ℤ pos j') *ℤ q l ≡ pos ct.g *ℤ inner l
      q_part l bl =
          q_is (pos i -ℤ pos i') (pos j -ℤ pos j') (p l) (q l) (pos d) (k l) (pos ct.g) (pos ct.rest) (ct.part l) (line l bl) whole_is (ct.parts l bl)
        where
          q_is : (i j p q d k g r t : ℤ) → i *ℤ p +ℤ j *ℤ q ≡ d *ℤ k → g *ℤ r ≡ d → g *ℤ t ≡ p → j *ℤ q ≡ g *ℤ (r *ℤ k -ℤ i *ℤ t)
          q_is i j p q d k g r t e w u =
              omega (arith, lin, e, mul-sub g (r *ℤ k) (i *ℤ t), mul_assoc g r k, ap (λ (y : ℤ). y *ℤ k) w, swap_mul g i t, ap (λ (y : ℤ). i *ℤ y) u)

      second : j ≡ j'
      second =
          small_multiple ct.g j j' (pos ct.rest *ℤ ((pos j -ℤ pos j') *ℤ x) +ℤ (pos j -ℤ pos j') *ℤ dot n e ct.part +ℤ dot n f inner) hj hj'
          (j_is (pos j -ℤ pos j') x (pos d) (pos ct.g) (pos ct.rest) (dot n e p) (dot n e ct.part) (dot n f q) (dot n f inner) primitive whole_is
          (dot-same n e p (λ (l : ℕ). pos ct.g *ℤ ct.part l) (λ l b. sym (ct.parts l b)) ∙ dot-scale n (pos ct.g) e ct.part)
          (sym (dot-scale n (pos j -ℤ pos j') f q) ∙ dot-same n f (λ (l : ℕ). (pos j -ℤ pos j') *ℤ q l) (λ (l : ℕ). pos ct.g *ℤ inner l) q_part
          ∙ dot-scale n (pos ct.g) f inner))
        where
          j_is : (j x d g r ep et fq fi : ℤ) → x *ℤ d +ℤ ep +ℤ fq ≡ pos 1 → g *ℤ r ≡ d → ep ≡ g *ℤ et → j *ℤ fq ≡ g *ℤ fi
              → j ≡ g *ℤ (r *ℤ (j *ℤ x) +ℤ j *ℤ et +ℤ fi)
          j_is j x d g r ep et fq fi one w u v =
              omega (
                arith,
                lin,
                *ℤ-one j,
                ap (λ (y : ℤ). j *ℤ y) one,
                mul-add j (x *ℤ d +ℤ ep) fq,
                mul-add j (x *ℤ d) ep,
                ap (λ (y : ℤ). j *ℤ y) u,
                swap_mul j g et,
                v,
                mul-add g (r *ℤ (j *ℤ x) +ℤ j *ℤ et) fi,
                mul-add g (r *ℤ (j *ℤ x)) (j *ℤ et),
                mul_assoc g r (j *ℤ x),
                ap (λ (y : ℤ). y *ℤ (j *ℤ x)) w,
                *ℤ_comm d (j *ℤ x),
                mul_assoc j x d,
              )

      first : j ≡ j' → i ≡ i'
      first same =
          small_multiple ct.rest i i' ((pos i -ℤ pos i') *ℤ ct.x +ℤ dot n ct.e k) hi hi'
          (mul_cancel (pos ct.g) (pos i -ℤ pos i') (pos ct.rest *ℤ ((pos i -ℤ pos i') *ℤ ct.x +ℤ dot n ct.e k)) (λ z. absurd (omega (arith, ints, z, hj)))
          (i_is (pos i -ℤ pos i') ct.x (pos d) (pos ct.g) (pos ct.rest) (dot n ct.e p) (dot n ct.e k) ct.sum_is whole_is
          (sym (dot-scale n (pos i -ℤ pos i') ct.e p) ∙ dot-same n ct.e (λ (l : ℕ). (pos i -ℤ pos i') *ℤ p l) (λ (l : ℕ). pos d *ℤ k l)
          (λ l b. alone (pos i -ℤ pos i') j j' (p l) (q l) (pos d *ℤ k l) same (line l b)) ∙ dot-scale n (pos d) ct.e k)))
        where
          alone : (i : ℤ) (j j' : ℕ) (p q t : ℤ) → j ≡ j' → i *ℤ p +ℤ (pos j -ℤ pos j') *ℤ q ≡ t → i *ℤ p ≡ t
          alone i j j' p q t same h =
              let z : pos j -ℤ pos j' ≡ pos 0 = omega (arith, lin, ap pos same) in
              omega (arith, lin, h, *ℤ_comm (pos j -ℤ pos j') q, ap (λ (y : ℤ). q *ℤ y) z, *ℤ-zero q)

          i_is : (i x d g r ep ek : ℤ) → x *ℤ d +ℤ ep ≡ g → g *ℤ r ≡ d → i *ℤ ep ≡ d *ℤ ek → g *ℤ i ≡ g *ℤ (r *ℤ (i *ℤ x +ℤ ek))
          i_is i x d g r ep ek h w u =
              omega (
                arith,
                lin,
                *ℤ_comm g i,
                ap (λ (y : ℤ). i *ℤ y) h,
                mul-add i (x *ℤ d) ep,
                u,
                *ℤ_comm x d,
                swap_mul i d x,
                ap (λ (y : ℤ). i *ℤ y) (*ℤ_comm x d),
                sym (mul_assoc g r (i *ℤ x +ℤ ek)),
                ap (λ (y : ℤ). y *ℤ (i *ℤ x +ℤ ek)) w,
                mul-add d (i *ℤ x) ek,
              )

      pair_same : (i ≡ i') × (j ≡ j')
      pair_same = (first second, second)

    -- if d and the numerators of both solutions combine to 1, d is at most the limit to the power of the lines
    pub least_den : d ≤ s ^ n
    least_den =
        elim (cases_lt (s ^ n) d) [
          | inr le ↦ le
          | inl lt ↦
              let w : Collision coded d = collide (s ^ n) d coded coded_below lt in
              let r = pair_same (w.i % ct.rest) (w.i / ct.rest) (w.j % ct.rest) (w.j / ct.rest)
              (mod-lt w.i rest_pos) (mod-lt w.j rest_pos) (quot_below w.i (omega (arith, w.order, w.below))) (quot_below w.j w.below)
              (code_same n (s - 1) (λ (m : ℕ). value_at (w.i % ct.rest) (w.i / ct.rest) m / d) (λ (m : ℕ). value_at (w.j % ct.rest) (w.j / ct.rest) m / d)
              (value_small w.i) (value_small w.j) w.same) in
              let e : w.i ≡ w.j = sym (div-add-mod w.i ct.rest) ∙ ap (λ (x : ℕ). ct.rest * (w.i / ct.rest) + x) r.0
              ∙ ap (λ (x : ℕ). ct.rest * x + w.j % ct.rest) r.1 ∙ div-add-mod w.j ct.rest in
              absurd (omega (arith, e, w.order))
        ]
      where
        coded : ℕ → ℕ
        coded t = code n (s - 1) (λ (m : ℕ). value_at (t % ct.rest) (t / ct.rest) m / d)

        value_small : (t m : ℕ) → m < n → value_at (t % ct.rest) (t / ct.rest) m / d ≤ s - 1
        value_small t m l = div_below d (value_at (t % ct.rest) (t / ct.rest) m) s d1 (value_below (t % ct.rest) (t / ct.rest) m l) s1

        coded_below : (t : ℕ) → t < d → coded t < s ^ n
        coded_below t l = subst (λ (k : ℕ). coded t < k ^ n) (let e : suc (s - 1) ≡ s = omega (arith, s1) in e)
            (code_below n (s - 1) (λ (m : ℕ). value_at (t % ct.rest) (t / ct.rest) m / d) (value_small t))

        rest_pos : 0 < ct.rest
        rest_pos = factor_pos ct.rest ct.g d ct.whole d1
          where
            factor_pos : (r g d : ℕ) → r * g ≡ d → 1 ≤ d → 0 < r
            factor_pos zero g d h k = absurd (omega arith)
            factor_pos (suc r) g d h k = omega arith

        quot_below : (t : ℕ) → t < d → t / ct.rest < ct.g
        quot_below t l = (div-lt_iff_lt-mul {k = ct.rest} {x = t} {y = ct.g} rest_pos).1 (omega (arith, ct.whole, l))
