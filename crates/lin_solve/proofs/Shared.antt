-- One denominator for two right sides, and how the code's denominator grows towards it.
use Rattle.std.proofs.Common.{◌≡◌, ◌≢◌, ℕ, zero, suc, ◌*◌, ◌^◌, ◌<◌, ◌≤◌, ℤ, pos, ◌+ℤ◌, ◌*ℤ◌, refl, sym, ap, ◌∙◌, arith, unsigned_abs}
use Rattle.std.proofs.lemmas.Int.{ints}
use Rattle.std.proofs.Math.IntN.{*ℤ_comm}
use Rattle.wide_num.proofs.Ints.{*ℤ-one, abs_pos, lin, mul-add, mul-zero_cases, mul_assoc, mul_cancel, swap_mul}
use Rattle.lin_solve.specs.Bounds.{nat_total}
use Rattle.wide_num.specs.Sums.{dot}
use Rattle.wide_num.proofs.Sums.{dot-same, dot-scale, dot-scale_left}
use Rattle.lin_solve.proofs.Inverse.{Injective, Solvable, solvable}
use Rattle.lin_solve.proofs.Denominator.{Content, content, least_den, sign_of, size_is}

pub record Common (n s : ℕ) (a : ℕ → ℕ → ℤ) (b c : ℕ → ℤ) : Type 0 where
  pub den : ℕ
  pub some : 1 ≤ den
  pub small : den ≤ s ^ n
  pub p : ℕ → ℤ
  pub q : ℕ → ℤ
  pub p_is : (m : ℕ) → m < n → dot n (a m) p ≡ pos den *ℤ b m
  pub q_is : (m : ℕ) → m < n → dot n (a m) q ≡ pos den *ℤ c m

factors_some : (r t g d : ℕ) → r * t * g ≡ d → 1 ≤ d → (1 ≤ r * t) × (g ≢ 0)
factors_some r t g d h l = (one_of (r * t) g d h l, λ z. two_of (r * t) g d h l z)
  where
    one_of : (x g d : ℕ) → x * g ≡ d → 1 ≤ d → 1 ≤ x
    one_of zero g d h l = absurd (omega arith)
    one_of (suc x) g d h l = omega arith

    two_of : (x g d : ℕ) → x * g ≡ d → 1 ≤ d → g ≢ 0
    two_of x zero d h l e = absurd (omega arith)
    two_of x (suc g) d h l e = absurd (omega (arith, e))

module _ (n s d : ℕ) (a : ℕ → ℕ → ℕ) (b c p q : ℕ → ℤ) (s1 : 1 ≤ s) (d1 : 1 ≤ d)
    (inj : Injective n (λ (m i : ℕ). pos (a m i)))
    (rows : (m : ℕ) → m < n → nat_total n (a m) ≤ s)
    (is_p : (m : ℕ) → m < n → dot n (λ (i : ℕ). pos (a m i)) p ≡ pos d *ℤ b m)
    (is_q : (m : ℕ) → m < n → dot n (λ (i : ℕ). pos (a m i)) q ≡ pos d *ℤ c m) where
  one_ct : Content n d p
  one_ct = content n d p

  two_ct : Content n one_ct.g q
  two_ct = content n one_ct.g q

  whole : one_ct.rest * two_ct.rest * two_ct.g ≡ d
  whole = wholes one_ct.rest two_ct.rest two_ct.g one_ct.g d two_ct.whole one_ct.whole
    where
      wholes : (r t g h d : ℕ) → t * g ≡ h → r * h ≡ d → r * t * g ≡ d
      wholes r t g h d e f = omega (arith, ap (λ (x : ℕ). r * x) e, f)

  g_apart : pos two_ct.g ≢ pos 0
  g_apart e = (factors_some one_ct.rest two_ct.rest two_ct.g d whole d1).1 (omega (arith, ints, e))

  p_part : (i : ℕ) → i < n → pos two_ct.g *ℤ (pos two_ct.rest *ℤ one_ct.part i) ≡ p i
  p_part i l =
      sym (mul_assoc (pos two_ct.g) (pos two_ct.rest) (one_ct.part i))
      ∙ ap (λ (x : ℤ). x *ℤ one_ct.part i) (ap pos (let e : two_ct.g * two_ct.rest ≡ one_ct.g = omega (arith, two_ct.whole) in e))
      ∙ one_ct.parts i l

  divided : (v w : ℕ → ℤ) (r : ℕ → ℤ) → ((i : ℕ) → i < n → pos two_ct.g *ℤ w i ≡ v i) → ((m : ℕ) → m < n → dot n (λ (i : ℕ). pos (a m i)) v ≡ pos d *ℤ r m) →
      (m : ℕ) → m < n → dot n (λ (i : ℕ). pos (a m i)) w ≡ pos (one_ct.rest * two_ct.rest) *ℤ r m
  divided v w r part is m l =
      mul_cancel (pos two_ct.g) (dot n (λ (i : ℕ). pos (a m i)) w) (pos (one_ct.rest * two_ct.rest) *ℤ r m) g_apart
      (sym (dot-scale n (pos two_ct.g) (λ (i : ℕ). pos (a m i)) w)
      ∙ dot-same n (λ (i : ℕ). pos (a m i)) (λ (i : ℕ). pos two_ct.g *ℤ w i) v part
      ∙ is m l
      ∙ ap (λ (x : ℤ). x *ℤ r m) (ap pos (let e : d ≡ two_ct.g * (one_ct.rest * two_ct.rest) = omega (arith, whole) in e))
      ∙ mul_assoc (pos two_ct.g) (pos (one_ct.rest * two_ct.rest)) (r m))

  no_factor : two_ct.x *ℤ one_ct.x *ℤ pos (one_ct.rest * two_ct.rest) +ℤ dot n (λ (i : ℕ). two_ct.x *ℤ one_ct.e i)
      (λ (i : ℕ). pos two_ct.rest *ℤ one_ct.part i) +ℤ dot n two_ct.e two_ct.part ≡ pos 1
  no_factor =
      mul_cancel (pos two_ct.g) _ (pos 1) g_apart
      (collected (pos two_ct.g) two_ct.x one_ct.x (pos (one_ct.rest * two_ct.rest)) (pos d)
      (dot n (λ (i : ℕ). two_ct.x *ℤ one_ct.e i) (λ (i : ℕ). pos two_ct.rest *ℤ one_ct.part i)) (dot n two_ct.e two_ct.part)
      (dot n one_ct.e p) (dot n two_ct.e q) (pos one_ct.g)
      (ap pos (let e : two_ct.g * (one_ct.rest * two_ct.rest) ≡ d = omega (arith, whole) in e))
      (sym (dot-scale n (pos two_ct.g) (λ (i : ℕ). two_ct.x *ℤ one_ct.e i) (λ (i : ℕ). pos two_ct.rest *ℤ one_ct.part i))
      ∙ dot-same n (λ (i : ℕ). two_ct.x *ℤ one_ct.e i) (λ (i : ℕ). pos two_ct.g *ℤ (pos two_ct.rest *ℤ one_ct.part i)) p p_part
      ∙ dot-scale_left n two_ct.x one_ct.e p)
      (sym (dot-scale n (pos two_ct.g) two_ct.e two_ct.part) ∙ dot-same n two_ct.e (λ (i : ℕ). pos two_ct.g *ℤ two_ct.part i) q two_ct.parts)
      one_ct.sum_is two_ct.sum_is
      ∙ sym (*ℤ-one (pos two_ct.g)))
    where
      collected : (g x y k d u v ep eq h : ℤ) → g *ℤ k ≡ d → g *ℤ u ≡ x *ℤ ep → g *ℤ v ≡ eq → y *ℤ d +ℤ ep ≡ h → x *ℤ h +ℤ eq ≡ g
          → g *ℤ (x *ℤ y *ℤ k +ℤ u +ℤ v) ≡ g
      collected g x y k d u v ep eq h a b c e f =
          omega (
            arith,
            lin,
            mul-add g (x *ℤ y *ℤ k +ℤ u) v,
            mul-add g (x *ℤ y *ℤ k) u,
            b,
            c,
            swap_mul g (x *ℤ y) k,
            ap (λ (t : ℤ). x *ℤ y *ℤ t) a,
            mul_assoc x y d,
            mul-add x (y *ℤ d) ep,
            ap (λ (t : ℤ). x *ℤ t) e,
            f,
          )

  reduced : Common n s (λ (m i : ℕ). pos (a m i)) b c
  reduced = record {
    den = one_ct.rest * two_ct.rest;
    some = (factors_some one_ct.rest two_ct.rest two_ct.g d whole d1).0;
    small = least_den n s (one_ct.rest * two_ct.rest) a (λ (i : ℕ). pos two_ct.rest *ℤ one_ct.part i) two_ct.part b c s1
        (factors_some one_ct.rest two_ct.rest two_ct.g d whole d1).0 inj rows
        (divided p (λ (i : ℕ). pos two_ct.rest *ℤ one_ct.part i) b p_part is_p) (divided q two_ct.part c two_ct.parts is_q)
        (two_ct.x *ℤ one_ct.x) (λ (i : ℕ). two_ct.x *ℤ one_ct.e i) two_ct.e no_factor;
    p = λ (i : ℕ). pos two_ct.rest *ℤ one_ct.part i;
    q = two_ct.part;
    p_is = divided p (λ (i : ℕ). pos two_ct.rest *ℤ one_ct.part i) b p_part is_p;
    q_is = divided q two_ct.part c two_ct.parts is_q;
  }

-- how the code's denominator d grows: k is a multiple of d, and of d times what c doesn't share with d times the numerators
pub grows : (k d m c c' g f h x y z u v : ℤ) → k ≡ d *ℤ m → c ≡ g *ℤ c' → g ≢ pos 0 → x *ℤ c +ℤ (y *ℤ (d *ℤ f) +ℤ z *ℤ (d *ℤ h)) ≡ g → c *ℤ u ≡ k *ℤ f
    → c *ℤ v ≡ k *ℤ h →
    k ≡ d *ℤ c' *ℤ (x *ℤ m +ℤ (y *ℤ u +ℤ z *ℤ v))
grows k d m c c' g f h x y z u v ek ec ne eg eu ev =
    let w : m ≡ c' *ℤ (x *ℤ m +ℤ (y *ℤ u +ℤ z *ℤ v)) =
    mul_cancel g m (c' *ℤ (x *ℤ m +ℤ (y *ℤ u +ℤ z *ℤ v))) ne
    (*ℤ_comm g m ∙ ap (λ (t : ℤ). m *ℤ t) (sym eg)
    ∙ spread m x c y z (d *ℤ f) (d *ℤ h) (c *ℤ u) (c *ℤ v) u v (turned d m k f ek ∙ sym eu) (turned d m k h ek ∙ sym ev) refl refl
    ∙ ap (λ (t : ℤ). t *ℤ (x *ℤ m +ℤ (y *ℤ u +ℤ z *ℤ v))) ec
    ∙ mul_assoc g c' (x *ℤ m +ℤ (y *ℤ u +ℤ z *ℤ v))) in
    ek ∙ ap (λ (t : ℤ). d *ℤ t) w ∙ sym (mul_assoc d c' (x *ℤ m +ℤ (y *ℤ u +ℤ z *ℤ v)))
  where
    turned : (d m k f : ℤ) → k ≡ d *ℤ m → m *ℤ (d *ℤ f) ≡ k *ℤ f
    turned d m k f e = sym (mul_assoc m d f) ∙ ap (λ (t : ℤ). t *ℤ f) (*ℤ_comm m d ∙ sym e)

    spread : (m x c y z p q r s u v : ℤ) → m *ℤ p ≡ r → m *ℤ q ≡ s → r ≡ c *ℤ u → s ≡ c *ℤ v → m *ℤ (x *ℤ c +ℤ (y *ℤ p +ℤ z *ℤ q)) ≡ c *ℤ
        (x *ℤ m +ℤ (y *ℤ u +ℤ z *ℤ v))
    spread m x c y z p q r s u v a b e f =
        omega (
          arith,
          lin,
          mul-add m (x *ℤ c) (y *ℤ p +ℤ z *ℤ q),
          mul-add m (y *ℤ p) (z *ℤ q),
          swap_mul m x c,
          ap (λ (t : ℤ). x *ℤ t) (*ℤ_comm m c),
          swap_mul x c m,
          swap_mul m y p,
          ap (λ (t : ℤ). y *ℤ t) (a ∙ e),
          swap_mul y c u,
          swap_mul m z q,
          ap (λ (t : ℤ). z *ℤ t) (b ∙ f),
          swap_mul z c v,
          mul-add c (x *ℤ m) (y *ℤ u +ℤ z *ℤ v),
          mul-add c (y *ℤ u) (z *ℤ v),
        )

-- the denominator for two right sides: at most the n-th power of s
pub common : (n s : ℕ) (a : ℕ → ℕ → ℕ) (b c : ℕ → ℤ) → 1 ≤ s → Injective n (λ (m i : ℕ). pos (a m i)) → ((m : ℕ) → m < n → nat_total n (a m) ≤ s)
    → Common n s (λ (m i : ℕ). pos (a m i)) b c
common n s a b c s1 inj rows =
    let v : Solvable n (λ (m i : ℕ). pos (a m i)) b = solvable n (λ (m i : ℕ). pos (a m i)) inj b in
    let w : Solvable n (λ (m i : ℕ). pos (a m i)) c = solvable n (λ (m i : ℕ). pos (a m i)) inj c in
    let t : ℤ = sign_of (v.d *ℤ w.d) in
    reduced n s (unsigned_abs (v.d *ℤ w.d)) a b c (λ (i : ℕ). sign_of (v.d *ℤ w.d) *ℤ w.d *ℤ v.y i) (λ (i : ℕ). sign_of (v.d *ℤ w.d) *ℤ v.d *ℤ w.y i) s1
    (abs_pos (v.d *ℤ w.d) (λ e. w.apart (mul-zero_cases v.d w.d e v.apart))) inj rows
    (λ m l. dot-scale n (sign_of (v.d *ℤ w.d) *ℤ w.d) (λ (i : ℕ). pos (a m i)) v.y ∙ ap (λ (x : ℤ). sign_of (v.d *ℤ w.d) *ℤ w.d *ℤ x) (v.is m l)
    ∙ left (sign_of (v.d *ℤ w.d)) v.d w.d (b m) (pos (unsigned_abs (v.d *ℤ w.d))) (size_is (v.d *ℤ w.d)))
    (λ m l. dot-scale n (sign_of (v.d *ℤ w.d) *ℤ v.d) (λ (i : ℕ). pos (a m i)) w.y ∙ ap (λ (x : ℤ). sign_of (v.d *ℤ w.d) *ℤ v.d *ℤ x) (w.is m l)
    ∙ right (sign_of (v.d *ℤ w.d)) v.d w.d (c m) (pos (unsigned_abs (v.d *ℤ w.d))) (size_is (v.d *ℤ w.d)))
  where
    right : (t d e c k : ℤ) → k ≡ t *ℤ (d *ℤ e) → t *ℤ d *ℤ (e *ℤ c) ≡ k *ℤ c
    right t d e c k h = sym (mul_assoc (t *ℤ d) e c) ∙ ap (λ (x : ℤ). x *ℤ c) (mul_assoc t d e ∙ sym h)

    left : (t d e b k : ℤ) → k ≡ t *ℤ (d *ℤ e) → t *ℤ e *ℤ (d *ℤ b) ≡ k *ℤ b
    left t d e b k h = sym (mul_assoc (t *ℤ e) d b) ∙ ap (λ (x : ℤ). x *ℤ b) (mul_assoc t e d ∙ ap (λ (x : ℤ). t *ℤ x) (*ℤ_comm e d) ∙ sym h)
