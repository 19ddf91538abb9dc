-- A row divided by its content is primitive.
use Rattle.std.proofs.Common.{Err, IfOk, List, MatchOption, None, Ok, Option, Result, Some, ap, arith, length, pos, refl, subst, sym, unsigned_abs, ℕ}
use Rattle.std.proofs.Common.{ℤ, ◌*ℤ◌, ◌*◌, ◌+◌, ◌-ℤ◌, ◌<◌, ◌^◌, ◌∙◌, ◌≡◌, ◌≢◌, ◌≤◌}
use Rattle.std.proofs.lemmas.Int.{ints, unsigned_abs-mul}
use Rattle.std.proofs.Math.IntN.{*ℤ_comm, *ℤ-zero}
use Rattle.wide_num.proofs.Ints.{*ℤ-one, mul_cancel}
use Rattle.lin_solve.specs.Elimination.{ContentOf, AreQuotients, IsPrimitivePart, IsMix, Reduces}
use Rattle.wide_num.specs.Sums.{dot, nth}
use Rattle.wide_num.proofs.Sums.{dot-same, dot-scale}

-- the content of a row with a number other than 0 isn't 0
pub content_apart : (v : List ℤ) (g : ℤ) → ContentOf (length v) (nth v) g → (p : ℕ) → p < length v → nth v p ≢ pos 0 → g ≢ pos 0
content_apart v g c p l ne e = ne (sym (c.parts p l) ∙ ap (λ (x : ℤ). x *ℤ c.part p) e ∙ *ℤ_comm (pos 0) (c.part p) ∙ *ℤ-zero (c.part p))

-- the quotients of a row by its content, if that isn't 0, are the primitive part of the row
pub primitive_part : (v y : List ℤ) (g : ℤ) → g ≢ pos 0 → ContentOf (length v) (nth v) g → AreQuotients g v y → IsPrimitivePart v y
primitive_part v y g ne c p = record {
  long = p.long;
  g = g;
  apart = ne;
  is = p.is;
  primitive = (
    c.e,
    mul_cancel g (dot (length v) c.e (nth y)) (pos 1) ne
        (sym (dot-scale (length v) g c.e (nth y)) ∙ dot-same (length v) c.e (λ (i : ℕ). g *ℤ nth y i) (nth v) p.is ∙ c.sum_is ∙ sym (*ℤ-one g)),
  );
}

-- a row whose content is 1 is its own primitive part
pub primitive_itself : (v : List ℤ) → ContentOf (length v) (nth v) (pos 1) → IsPrimitivePart v v
primitive_itself v c = record { long = refl; g = pos 1; apart = λ e. absurd (omega (arith, ints, e)); is = λ i l. one_times (nth v i); primitive = (c.e, c.sum_is) }
  where
    one_times : (x : ℤ) → pos 1 *ℤ x ≡ x
    one_times x = *ℤ_comm (pos 1) x ∙ *ℤ-one x

-- the primitive part of s times v less t times w is these two rows combined and reduced
pub reduces : (s t : ℤ) (v w m y : List ℤ) → IsMix s t v w m → IsPrimitivePart m y → Reduces s t v w y
reduces s t v w m y h p = record {
  long = p.long ∙ h.long;
  g = p.g;
  apart = p.apart;
  is = λ i l. p.is i (subst (λ (n : ℕ). i < n) (sym h.long) l) ∙ h.is i l;
  primitive = (p.primitive.0, subst (λ (n : ℕ). dot n p.primitive.0 (nth y) ≡ pos 1) h.long p.primitive.1);
}

-- s times x less t times y is in the range if the sizes of the two products sum to a number in the range
pub mix_small : (s t x y z : ℤ) → z ≡ s *ℤ x -ℤ t *ℤ y → unsigned_abs s * unsigned_abs x + unsigned_abs t * unsigned_abs y < 2 ^ 120 → unsigned_abs z < 2 ^ 120
mix_small s t x y z e h =
    let k : unsigned_abs (s *ℤ x -ℤ t *ℤ y) ≤ unsigned_abs (s *ℤ x) + unsigned_abs (t *ℤ y) = minus_abs (s *ℤ x) (t *ℤ y) in
    omega (arith, k, ap unsigned_abs e, unsigned_abs-mul s x, unsigned_abs-mul t y, h)
  where
    minus_abs : (x y : ℤ) → unsigned_abs (x -ℤ y) ≤ unsigned_abs x + unsigned_abs y
    minus_abs x y = omega (arith, ints)

-- if each value with P has Q too, a call whose value has P, if there is one, is a call whose value has Q
pub if_ok : {T E : Type 0} (r : Result T E) (P Q : T → Type 0) → ((x : T) → P x → Q x) → IfOk r P → IfOk r Q
if_ok (Ok x) P Q f h = f x h
if_ok (Err e) P Q f h = h

-- a fact for each case of an option gives any that follows from it in the same case
pub match_option : {T : Type 0} (r : Option T) (P P' : Type 0) (Q Q' : T → Type 0) → (P → P') → ((x : T) → Q x → Q' x) → MatchOption r P Q → MatchOption r P' Q'
match_option None P P' Q Q' f g h = f h
match_option (Some x) P P' Q Q' f g h = g x h

-- a property of each answer that a call may give
pub each_ok : {T E : Type 0} (r : Result T E) (P : T → Type 0) → ((x : T) → r ≡ Ok x → P x) → IfOk r P
each_ok (Ok x) P f = f x refl
each_ok (Err e) P f = tt

-- what holds of the value of a call, if any, holds of the value that the call gave
pub at_ok : {T E : Type 0} (r : Result T E) (x : T) (P : T → Type 0) → r ≡ Ok x → IfOk r P → P x
at_ok {T} {E} r x P e h = subst (λ (s : Result T E). IfOk s P) e h
