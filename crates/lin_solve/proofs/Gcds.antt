-- What the greatest common divisor of two signed numbers is, as a combination, and of a row.
use Rattle.std.proofs.Common.{◌≡◌, ◌≢◌, ℕ, suc, ◌*◌, ◌/◌, ◌%◌, ℤ, pos, ◌+ℤ◌, ◌*ℤ◌, ◌≤ℤ◌, refl, sym, ap, ◌∙◌, subst, arith, unsigned_abs, inl, inr}
use Rattle.std.specs.Int.{IsGcd}
use Rattle.std.proofs.lemmas.Int.{ints}
use Rattle.std.proofs.lemmas.Bool.{cases_eq}
use Rattle.std.proofs.lemmas.Nat.Gcd.{mod-eq-zero_of_dvd}
use Rattle.std.proofs.Math.Nat.{div-add-mod}
use Rattle.wide_num.proofs.Ints.{bezout, lin, mul_assoc, swap_mul}
use Rattle.lin_solve.specs.Elimination.{ContentOf}
use Rattle.wide_num.specs.Sums.{dot}
use Rattle.wide_num.proofs.Sums.{total-same, total-scale}
use Rattle.lin_solve.proofs.Denominator.{sign_of, size_is, from_size}

pub record GcdParts (a b g : ℤ) : Type 0 where
  pub s : ℤ
  pub t : ℤ
  pub sum_is : s *ℤ a +ℤ t *ℤ b ≡ g
  pub p : ℤ
  pub p_is : g *ℤ p ≡ a
  pub q : ℤ
  pub q_is : g *ℤ q ≡ b

abs_is_pos : (g : ℤ) → pos 0 ≤ℤ g → pos (unsigned_abs g) ≡ g
abs_is_pos g h = omega (arith, ints, h)

divided : (g a : ℤ) → pos 0 ≤ℤ g → unsigned_abs a % unsigned_abs g ≡ 0 → g *ℤ (sign_of a *ℤ pos (unsigned_abs a / unsigned_abs g)) ≡ a
divided g a h z =
    swap_mul g (sign_of a) (pos (unsigned_abs a / unsigned_abs g))
    ∙ ap (λ (x : ℤ). sign_of a *ℤ x)
    (ap (λ (y : ℤ). y *ℤ pos (unsigned_abs a / unsigned_abs g)) (sym (abs_is_pos g h))
    ∙ ap pos (let e : unsigned_abs g * (unsigned_abs a / unsigned_abs g) ≡ unsigned_abs a = omega (arith, div-add-mod (unsigned_abs a) (unsigned_abs g)) in e))
    ∙ from_size a

-- the greatest common divisor of the sizes of two numbers is a combination of the two and divides both
pub gcd_parts : (a b g : ℤ) → pos 0 ≤ℤ g → IsGcd (unsigned_abs a) (unsigned_abs b) (unsigned_abs g) → GcdParts a b g
gcd_parts a b g h is =
    let w = bezout (unsigned_abs a) (unsigned_abs b) (unsigned_abs g) is in
    record {
      s = w.0 *ℤ sign_of a;
      t = w.1 *ℤ sign_of b;
      sum_is = signs w.0 w.1 (sign_of a) (sign_of b) a b (pos (unsigned_abs a)) (pos (unsigned_abs b)) (pos (unsigned_abs g)) g (size_is a) (size_is b) w.2
          (abs_is_pos g h);
      p = sign_of a *ℤ pos (unsigned_abs a / unsigned_abs g);
      p_is = divided g a h (mod-eq-zero_of_dvd (unsigned_abs g) is.0);
      q = sign_of b *ℤ pos (unsigned_abs b / unsigned_abs g);
      q_is = divided g b h (mod-eq-zero_of_dvd (unsigned_abs g) is.1);
    }
  where
    signs : (s t x y a b m n k g : ℤ) → m ≡ x *ℤ a → n ≡ y *ℤ b → s *ℤ m +ℤ t *ℤ n ≡ k → k ≡ g → s *ℤ x *ℤ a +ℤ t *ℤ y *ℤ b ≡ g
    signs s t x y a b m n k g e f h l = omega (arith, lin, mul_assoc s x a, mul_assoc t y b, ap (λ (z : ℤ). s *ℤ z) e, ap (λ (z : ℤ). t *ℤ z) f, h, l)

-- a function with another value at n
patch : (ℕ → ℤ) → ℕ → ℤ → ℕ → ℤ
patch f n x k = elim (cases_eq k n) [ inl e ↦ x | inr ne ↦ f k ]

patch-same : (f : ℕ → ℤ) (n : ℕ) (x : ℤ) → patch f n x n ≡ x
unfolding patch
patch-same f n x = elim (cases_eq n n) as (λ c. elim c as (λ _. ℤ) [ inl e ↦ x | inr ne ↦ f n ] ≡ x) [ inl e ↦ refl | inr ne ↦ absurd (ne refl) ]

patch-other : (f : ℕ → ℤ) (n : ℕ) (x : ℤ) (k : ℕ) → k ≢ n → patch f n x k ≡ f k
unfolding patch
patch-other f n x k h = elim (cases_eq k n) as (λ c. elim c as (λ _. ℤ) [ inl e ↦ x | inr ne ↦ f k ] ≡ f k) [ inl e ↦ absurd (h e) | inr ne ↦ refl ]

-- the content of no numbers is 0
pub content_none : (v : ℕ → ℤ) → ContentOf 0 v (pos 0)
content_none v = record { e = v; sum_is = refl; part = v; parts = λ i l. absurd (omega arith) }

-- what the content of the first n numbers shares with the next number is the content of n + 1 numbers
pub content_more : (n : ℕ) (v : ℕ → ℤ) (g h : ℤ) → ContentOf n v g → GcdParts g (v n) h → ContentOf (suc n) v h
content_more n v g h c w = record {
  e = patch (λ (k : ℕ). w.s *ℤ c.e k) n w.t;
  sum_is =
      joined w.s w.t g (v n) h (dot n (patch (λ (k : ℕ). w.s *ℤ c.e k) n w.t) v) (patch (λ (k : ℕ). w.s *ℤ c.e k) n w.t n)
      (total-same n (λ (k : ℕ). patch (λ (k : ℕ). w.s *ℤ c.e k) n w.t k *ℤ v k) (λ (k : ℕ). w.s *ℤ (c.e k *ℤ v k))
      (λ k l. ap (λ (x : ℤ). x *ℤ v k) (patch-other (λ (k : ℕ). w.s *ℤ c.e k) n w.t k (omega arith)) ∙ mul_assoc w.s (c.e k) (v k))
      ∙ total-scale n w.s (λ (k : ℕ). c.e k *ℤ v k) ∙ ap (λ (x : ℤ). w.s *ℤ x) c.sum_is)
      (patch-same (λ (k : ℕ). w.s *ℤ c.e k) n w.t)
      w.sum_is;
  part = patch (λ (k : ℕ). w.p *ℤ c.part k) n w.q;
  parts = λ k l. elim (cases_eq k n) [
    | inl e ↦ subst (λ (j : ℕ). h *ℤ patch (λ (k : ℕ). w.p *ℤ c.part k) n w.q j ≡ v j) (sym e)
        (ap (λ (x : ℤ). h *ℤ x) (patch-same (λ (k : ℕ). w.p *ℤ c.part k) n w.q) ∙ w.q_is)
    | inr ne ↦
        ap (λ (x : ℤ). h *ℤ x) (patch-other (λ (k : ℕ). w.p *ℤ c.part k) n w.q k ne)
        ∙ sym (mul_assoc h w.p (c.part k)) ∙ ap (λ (x : ℤ). x *ℤ c.part k) w.p_is ∙ c.parts k (omega arith)
  ];
}
  where
    joined : (s t g x h d p : ℤ) → d ≡ s *ℤ g → p ≡ t → s *ℤ g +ℤ t *ℤ x ≡ h → d +ℤ p *ℤ x ≡ h
    joined s t g x h d p e f k = omega (arith, lin, e, ap (λ (y : ℤ). y *ℤ x) f, k)
