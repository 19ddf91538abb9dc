-- Divisors of lists, and points with their multipliers divided by a common divisor.
use Rattle.std.specs.Prelude.{◌≡◌, ℕ, zero, suc, ◌+◌, ◌*◌, ◌<◌, List, length, ℤ, pos, negsuc, ◌+ℤ◌, ◌*ℤ◌, ◌≤ℤ◌, ◌<ℤ◌, unsigned_abs, refl}
use Rattle.std.specs.Int.{IsGcd}
use Rattle.std.proofs.Common.{sym, ◌∙◌, ap, arith, subst, inl, inr}
use Rattle.std.proofs.lemmas.Int.{ints}
use Rattle.lin_solve.proofs.Gcds.{gcd_parts}
use Rattle.nearest_point.proofs.Places.{lt_or}
use Rattle.wide_num.proofs.Ints.{*ℤ-one, lin, mul-add, mul_assoc, mul_cancel, swap_mul}
use Rattle.wide_num.specs.Range.{Divides, InRange}
use Rattle.wide_num.specs.Sums.{nth}
use Rattle.lin_solve.specs.Elimination.{AreQuotients}
use Rattle.core_price.specs.Lowest.{DividesAll, DividesPoint, IsLowest, IsMultiple}

-- a divisor of a divisor divides
pub divides-through : (d e x : ℤ) → Divides d e → Divides e x → Divides d x
divides-through d e x p q = (p.0 *ℤ q.0, sym (mul_assoc d p.0 q.0) ∙ ap (λ (t : ℤ). t *ℤ q.0) p.1 ∙ q.1)

-- what divides two numbers divides their greatest common divisor, which divides both
pub gcd-divides : (a b g : ℤ) → pos 0 ≤ℤ g → IsGcd (unsigned_abs a) (unsigned_abs b) (unsigned_abs g)
    → Divides g a × Divides g b × ((d : ℤ) → Divides d a → Divides d b → Divides d g)
gcd-divides a b g low is =
    let w = gcd_parts a b g low is in
    ((w.p, w.p_is), (w.q, w.q_is), λ d p q. (w.s *ℤ p.0 +ℤ w.t *ℤ q.0, joined d w.s w.t p.0 q.0 a b g p.1 q.1 w.sum_is))
  where
    joined : (d s t p q a b g : ℤ) → d *ℤ p ≡ a → d *ℤ q ≡ b → s *ℤ a +ℤ t *ℤ b ≡ g → d *ℤ (s *ℤ p +ℤ t *ℤ q) ≡ g
    joined d s t p q a b g e f h =
        let x = ap (λ (y : ℤ). s *ℤ y) e in
        let y = ap (λ (y : ℤ). t *ℤ y) f in
        omega (arith, lin, mul-add d (s *ℤ p) (t *ℤ q), swap_mul d s p, swap_mul d t q, x, y, h)

-- what the loop over a list knows of the greatest common divisor so far
pub record IsCommon (start : ℤ) (numbers : List ℤ) (k : ℕ) (divisor : ℤ) : Type 0 where
  pub positive : pos 0 <ℤ divisor
  pub range : InRange divisor
  pub start_is : Divides divisor start
  pub each : (i : ℕ) → i < k → Divides divisor (nth numbers i)
  pub greatest : (g : ℕ) → Divides (pos g) start → DividesAll (pos g) numbers → Divides (pos g) divisor

-- before the first number of the list, the start itself is the greatest common divisor so far
pub common-none : (start : ℤ) (numbers : List ℤ) → pos 0 <ℤ start → InRange start → IsCommon start numbers 0 start
common-none start numbers p r = record {
  positive = p;
  range = r;
  start_is = (pos 1, *ℤ-one start);
  each = λ i lt. absurd (omega arith);
  greatest = λ g d all. d;
}

divisor-some : (d x : ℤ) → pos 0 <ℤ d → pos 0 ≤ℤ x → Divides x d → pos 0 <ℤ x
divisor-some d (pos zero) p low q = absurd (let e = q.1 in omega (arith, ints))
divisor-some d (pos (suc x)) p low q = omega (arith, ints)
divisor-some d (negsuc x) p low q = absurd (omega (arith, ints))

-- the greatest common divisor so far and the next number have that of one number more
pub common-more : (start : ℤ) (numbers : List ℤ) (k : ℕ) (divisor next : ℤ) → IsCommon start numbers k divisor → k < length numbers → pos 0 ≤ℤ next
    → IsGcd (unsigned_abs divisor) (unsigned_abs (nth numbers k)) (unsigned_abs next) → InRange next → IsCommon start numbers (k + 1) next
common-more start numbers k divisor next far lt low is range =
    let d = gcd-divides divisor (nth numbers k) next low is in
    record {
      positive = divisor-some divisor next far.positive low d.0;
      range = range;
      start_is = divides-through next divisor start d.0 far.start_is;
      each = λ i li. elim (lt_or i k (omega arith)) [
        | inl l ↦ divides-through next divisor (nth numbers i) d.0 (far.each i l)
        | inr e ↦ subst
            (λ j. Divides next (nth numbers j)) (sym e) d.1
      ];
      greatest = λ g s all. d.2 (pos g) (far.greatest g s all) (all k lt);
    }

-- what divides each of a list of quotients, times the divisor, divides the list
times-all : (d : ℕ) (g : ℤ) (numbers products : List ℤ) → AreQuotients g products numbers → DividesAll (pos d) numbers → DividesAll (g *ℤ pos d) products
times-all d g numbers products h all i lt = let q = all i (omega (arith, h.long, lt)) in (q.0, mul_assoc g (pos d) q.0 ∙ ap (λ (t : ℤ). g *ℤ t) q.1 ∙ h.is i lt)

one-left : (g : ℤ) (d : ℕ) → pos 0 <ℤ g → Divides (g *ℤ pos d) g → d ≡ 1
one-left g d p q = by d q.0 (mul_cancel g (pos d *ℤ q.0) (pos 1) (λ e. absurd (omega (arith, ints))) (sym (mul_assoc g (pos d) q.0) ∙ q.1 ∙ sym (*ℤ-one g)))
  where
    by : (d : ℕ) (q : ℤ) → pos d *ℤ q ≡ pos 1 → d ≡ 1
    by zero q e = absurd (omega (arith, ints))
    by (suc zero) q e = refl
    by (suc (suc d)) (pos zero) e = absurd (omega (arith, ints))
    by (suc (suc d)) (pos (suc q)) e = absurd (omega (arith, ints))
    by (suc (suc d)) (negsuc q) e = absurd (omega (arith, ints))

-- nothing but 1 divides a point and its multipliers when they are divided by the greatest common divisor
pub lowest-of : (den : ℤ) (at first second : List ℤ) (all_den : ℤ) (all_at all_first all_second : List ℤ) (all : ℤ)
    → IsMultiple all den at first second all_den all_at all_first all_second
    → ((g : ℕ) → DividesPoint (pos g) all_den all_at all_first all_second → Divides (pos g) all) → IsLowest den at first second
lowest-of den at first second all_den all_at all_first all_second (negsuc n) h most d q = absurd (let p = h.positive in omega (arith, ints))
lowest-of den at first second all_den all_at all_first all_second (pos n) h most d q =
    one-left (pos n) d h.positive
    (most (n * d)
    (record {
      den_is = (q.den_is.0, mul_assoc (pos n) (pos d) q.den_is.0 ∙ ap (λ (t : ℤ). pos n *ℤ t) q.den_is.1 ∙ h.den_is);
      at_is = times-all d (pos n) at all_at h.at_is q.at_is;
      first_is = times-all d (pos n) first all_first h.first_is q.first_is;
      second_is = times-all d (pos n) second all_second h.second_is q.second_is;
    }))

divides-all_through : (d e : ℤ) (numbers : List ℤ) → Divides d e → DividesAll e numbers → DividesAll d numbers
divides-all_through d e numbers p all i lt = divides-through d e (nth numbers i) p (all i lt)

-- what the greatest common divisor of a number and a list does
pub record IsGreatest (start : ℤ) (numbers : List ℤ) (divisor : ℤ) : Type 0 where
  pub start_is : Divides divisor start
  pub each : DividesAll divisor numbers
  pub greatest : (g : ℕ) → Divides (pos g) start → DividesAll (pos g) numbers → Divides (pos g) divisor

-- the greatest common divisor of a point, list by list
pub point-divided :
    (den : ℤ) (at first second : List ℤ) (one two all : ℤ) → IsGreatest den at one → IsGreatest one first two → IsGreatest two second all
    → DividesPoint all den at first second
point-divided den at first second one two all a b c =
    let d = divides-through all two one c.start_is b.start_is in
    record {
      den_is = divides-through all one den d a.start_is;
      at_is = divides-all_through all one at d a.each;
      first_is = divides-all_through all two first c.start_is b.each;
      second_is = c.each;
    }

-- what divides a point and its multipliers divides the greatest common divisor taken list by list
pub point-greatest :
    (den : ℤ) (at first second : List ℤ) (one two all : ℤ) → IsGreatest den at one → IsGreatest one first two → IsGreatest two second all
    → (g : ℕ) → DividesPoint (pos g) den at first second → Divides (pos g) all
point-greatest den at first second one two all a b c g q = c.greatest g (b.greatest g (a.greatest g q.den_is q.at_is) q.first_is) q.second_is
