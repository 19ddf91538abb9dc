-- A fraction has one whole part and one rest in lowest terms, so it has one text.
use Rattle.std.proofs.Common.{◌≡◌, ◌≢◌, ℕ, ◌+◌, ◌*◌, ◌/◌, ◌<◌, List, ℤ, pos, ◌+ℤ◌, ◌*ℤ◌, ◌≤ℤ◌, unsigned_abs, sym, ap, subst, ◌∙◌, arith}
use Rattle.std.proofs.lemmas.Int.{ints, unsigned_abs-mul}
use Rattle.std.proofs.lemmas.Nat.{same_from_place}
use Rattle.std.proofs.lemmas.Nat.Gcd.{mod-eq-zero_of_dvd, dvd_antisymm}
use Rattle.std.proofs.Math.Nat.{div-add-mod, dvd-mul_right}
use Rattle.std.proofs.Math.IntN.{*ℤ_comm}
use Rattle.std.specs.Int.{◌∣◌}
use Rattle.wide_num.proofs.Ints.{*ℤ-one, Combined, combined, lin, mul-add, mul-zero_cases, mul_cancel, swap_mul}
use Rattle.projection_laws.proofs.Ring.{swap_middle}
use Rattle.print_grammar.specs.Fractions.{IsFraction, IsFractionText, parts_text}

not-zero : (d : ℤ) → pos 1 ≤ℤ d → d ≢ pos 0
not-zero d h e = absurd (omega (arith, ints))

pos-one : (a b : ℕ) → pos a ≡ pos b → a ≡ b
pos-one a b e = omega (arith, ints)

-- both fractions in whole numbers
cross : (n d m e : ℤ) (a p b q : ℕ) → pos 1 ≤ℤ d → pos 1 ≤ℤ e → n *ℤ e ≡ m *ℤ d → n *ℤ pos p ≡ d *ℤ pos a → m *ℤ pos q ≡ e *ℤ pos b → a * q ≡ b * p
cross n d m e a p b q dp ep same first second =
    let left : (d *ℤ e) *ℤ pos (a * q) ≡ (m *ℤ d) *ℤ pos (p * q) =
    swap_middle d e (pos a) (pos q) ∙ ap (λ (x : ℤ). x *ℤ (e *ℤ pos q)) (sym first) ∙ swap_middle n (pos p) e (pos q) ∙ ap (λ (x : ℤ). x *ℤ pos (p * q)) same in
    let right : (d *ℤ e) *ℤ pos (b * p) ≡ (m *ℤ d) *ℤ pos (q * p) =
    ap (λ (x : ℤ). x *ℤ pos (b * p)) (*ℤ_comm d e) ∙ swap_middle e d (pos b) (pos p) ∙ ap (λ (x : ℤ). x *ℤ (d *ℤ pos p)) (sym second)
    ∙ swap_middle m (pos q) d (pos p) in
    let turned : p * q ≡ q * p = omega arith in
    let not : d *ℤ e ≢ pos 0 = λ z. not-zero e ep (mul-zero_cases d e z (not-zero d dp)) in
    pos-one (a * q) (b * p) (mul_cancel (d *ℤ e) (pos (a * q)) (pos (b * p)) not (left ∙ ap (λ (x : ℕ). (m *ℤ d) *ℤ pos x) turned ∙ sym right))

divided : (g n : ℕ) → g ∣ n → n ≡ g * (n / g)
divided g n h = omega (arith, div-add-mod n g, mod-eq-zero_of_dvd g h)

-- numbers without a common divisor have 1 as a combination
record IsCombination (r p : ℕ) : Type 0 where
  s : ℤ
  t : ℤ
  sum_is : s *ℤ pos r +ℤ t *ℤ pos p ≡ pos 1

one-combined : (r p : ℕ) → ((g a b : ℕ) → r ≡ g * a → p ≡ g * b → g ≡ 1) → IsCombination r p
one-combined r p lowest =
    let c : Combined r p = combined p r p (omega arith) in
    let one : c.g ≡ 1 = lowest c.g (r / c.g) (p / c.g) (divided c.g r c.is.0) (divided c.g p c.is.1) in
    record { s = c.s; t = c.t; sum_is = c.sum_is ∙ ap pos one }

-- such a number divides what it divides the other times
divides : (r p q x : ℕ) → IsCombination r p → r * q ≡ x * p → (k : ℕ) × (q ≡ p * k)
divides r p q x c e =
    let k : ℤ = c.s *ℤ pos x +ℤ c.t *ℤ pos q in
    let whole : pos q ≡ pos p *ℤ k =
    sym (*ℤ-one (pos q)) ∙ ap (λ (y : ℤ). pos q *ℤ y) (sym c.sum_is) ∙ mul-add (pos q) (c.s *ℤ pos r) (c.t *ℤ pos p)
    ∙ omega (
      arith,
      lin,
      swap_mul (pos q) c.s (pos r),
      swap_mul (pos q) c.t (pos p),
      mul-add (pos p) (c.s *ℤ pos x) (c.t *ℤ pos q),
      swap_mul (pos p) c.s (pos x),
      swap_mul (pos p) c.t (pos q),
      ap (λ (y : ℕ). c.s *ℤ pos y) (turned q r x p e),
      ap (λ (y : ℕ). c.t *ℤ pos y) (both q p),
    ) in
    (unsigned_abs k, ap unsigned_abs whole ∙ unsigned_abs-mul (pos p) k)
  where
    turned : (q r x p : ℕ) → r * q ≡ x * p → q * r ≡ p * x
    turned q r x p e = omega (arith, e)

    both : (q p : ℕ) → q * p ≡ p * q
    both q p = omega arith

-- each divides the other
same-divisors : (p q j k : ℕ) → q ≡ p * k → p ≡ q * j → p ≡ q
same-divisors p q j k e f = dvd_antisymm (subst (λ (x : ℕ). p ∣ x) (sym e) (dvd-mul_right p k)) (subst (λ (x : ℕ). q ∣ x) (sym f) (dvd-mul_right q j))

below : (r p q : ℕ) → r < p → 0 < q → r * q < p * q
below r p q h some = grind arith

same-rest : (r s p : ℕ) → r * p ≡ s * p → 0 < p → r ≡ s
same-rest r s p e some = grind arith

spread-out : (w p r q : ℕ) → (w * p + r) * q ≡ w * (p * q) + r * q
spread-out w p r q = omega arith

-- equal fractions have the same parts
record AreSame (whole rest parts whole' rest' parts' : ℕ) : Type 0 where
  wholes : whole ≡ whole'
  rests : rest ≡ rest'
  denominators : parts ≡ parts'

same-fractions : (n d m e : ℤ) (w r p v s q : ℕ) → pos 1 ≤ℤ d → pos 1 ≤ℤ e → n *ℤ e ≡ m *ℤ d → IsFraction n d w r p → IsFraction m e v s q → AreSame w r p v s q
same-fractions n d m e w r p v s q dp ep same f g =
    let crossed : (w * p + r) * q ≡ (v * q + s) * p = cross n d m e (w * p + r) p (v * q + s) q dp ep same f.value g.value in
    let some-p : 0 < p = omega (arith, f.proper) in
    let some-q : 0 < q = omega (arith, g.proper) in
    let turned : q * p ≡ p * q = omega arith in
    let place : (w ≡ v) × (r * q ≡ s * p) =
    same_from_place w (r * q) v (s * p) (p * q) (below r p q f.proper some-q) (omega (arith, below s q p g.proper some-p, turned))
    (sym (spread-out w p r q) ∙ crossed ∙ spread-out v q s p ∙ ap (λ (x : ℕ). v * x + s * p) turned) in
    let up = divides r p q s (one-combined r p f.lowest) place.1 in
    let down = divides s q p r (one-combined s q g.lowest) (sym place.1) in
    let denominators : p ≡ q = same-divisors p q down.0 up.0 up.1 down.1 in
    record { wholes = place.0; rests = same-rest r s p (ap (λ (x : ℕ). r * x) denominators ∙ place.1) some-p; denominators = denominators }

-- equal fractions have one text
pub one-text : (n d m e : ℤ) (t u : List ℕ) → pos 1 ≤ℤ d → pos 1 ≤ℤ e → n *ℤ e ≡ m *ℤ d → IsFractionText n d t → IsFractionText m e u → t ≡ u
one-text n d m e t u dp ep same f g =
    let all = same-fractions n d m e f.0 f.1 f.2 g.0 g.1 g.2 dp ep same f.3 g.3 in
    f.4 ∙ ap (λ (x : ℕ). parts_text x f.1 f.2) all.wholes ∙ ap (λ (x : ℕ). parts_text g.0 x f.2) all.rests
    ∙ ap (λ (x : ℕ). parts_text g.0 g.1 x) all.denominators ∙ sym g.4
