-- A basis of the rows that a list of equations sends to 0: one row for each free coordinate. The row of a free coordinate is 0 at the others.
use Rattle.std.proofs.Common.{Bool, List, [], ap, arith, cond, false, inl, inr, length, pos, refl, subst, suc, sym, true, zero, ℕ, ℤ, ◌*ℤ◌, ◌-ℤ◌, ◌<◌}
use Rattle.std.proofs.Common.{◌∙◌, ◌∷◌, ◌≡◌, ◌≢◌, ◌≤◌}
use Rattle.std.proofs.lemmas.Int.{ints}
use Rattle.std.proofs.lemmas.Bool.{cases_eq}
use Rattle.std.proofs.Math.IntN.{*ℤ_comm, *ℤ-zero}
use Rattle.wide_num.proofs.Ints.{lin, mul-zero_cases}
use Rattle.wide_num.proofs.Sums.{dot-lin, dot-same, dot-scale, dot-zero}
use Rattle.wide_num.specs.Sums.{dot}
use Rattle.lin_solve.proofs.Siegel.{Solves}
use Rattle.lin_solve.specs.Bounds.{nat_total}

-- no flag is both true and false
pub true_false : {X : Type 0} (b : Bool) → b ≡ true → b ≡ false → X
true_false b e f = cc

-- a multiple of one solution less a multiple of another is a solution too
pub Solves-lin : (n : ℕ) (s t : ℤ) (z y : ℕ → ℤ) (rows : List (ℕ → ℤ)) → Solves n z rows → Solves n y rows → Solves n (λ (i : ℕ). s *ℤ z i -ℤ t *ℤ y i) rows
Solves-lin n s t z y [] h k = tt
Solves-lin n s t z y (a ∷ rows) h k = (
  dot-lin n s t a z y ∙ zeros s t (dot n a z) (dot n a y) h.0 k.0,
  Solves-lin n s t z y rows h.1 k.1,
)
  where
    zeros : (s t x w : ℤ) → x ≡ pos 0 → w ≡ pos 0 → s *ℤ x -ℤ t *ℤ w ≡ pos 0
    zeros s t x w e f = omega (arith, lin, ap (λ (d : ℤ). s *ℤ d) e, ap (λ (d : ℤ). t *ℤ d) f, *ℤ-zero s, *ℤ-zero t)

-- if a multiple of v is y, and y is a solution, so is v
pub Solves-part : (n : ℕ) (g : ℤ) (v y : ℕ → ℤ) (rows : List (ℕ → ℤ)) → g ≢ pos 0 → ((i : ℕ) → i < n → g *ℤ v i ≡ y i) → Solves n y rows → Solves n v rows
Solves-part n g v y [] ne h k = tt
Solves-part n g v y (a ∷ rows) ne h k = (
  mul-zero_cases g (dot n a v) (sym (dot-scale n g a v) ∙ dot-same n a (λ (i : ℕ). g *ℤ v i) y h ∙ k.0) ne,
  Solves-part n g v y rows ne h k.1,
)

abbrev pub held : Bool → ℕ
held b = cond b 0 1

-- how many coordinates below n are not free
abbrev pub taken : ℕ → (ℕ → Bool) → ℕ
taken n free = nat_total n (λ (i : ℕ). held (free i))

pub record Basis (n : ℕ) (free : ℕ → Bool) (kept : List (ℕ → ℤ)) (v : ℕ → ℕ → ℤ) : Type 0 where
  pub own : (j : ℕ) → j < n → free j ≡ true → v j j ≢ pos 0
  pub others : (j l : ℕ) → j < n → l < n → free j ≡ true → free l ≡ true → l ≢ j → v j l ≡ pos 0
  pub killed : (j : ℕ) → j < n → free j ≡ true → Solves n (v j) kept
  pub only : (z : ℕ → ℤ) → Solves n z kept → ((l : ℕ) → l < n → free l ≡ true → z l ≡ pos 0) → (l : ℕ) → l < n → z l ≡ pos 0
  pub count : length kept ≤ taken n free

-- if all coordinates are free, their unit rows are a basis for no rows at all
pub start : (n : ℕ) (free : ℕ → Bool) (v : ℕ → ℕ → ℤ) → ((j : ℕ) → j < n → free j ≡ true) → ((j : ℕ) → j < n → v j j ≡ pos 1)
    → ((j l : ℕ) → j < n → l < n → l ≢ j → v j l ≡ pos 0) → Basis n free [] v
start n free v all one none = record {
  own = λ j b f e. absurd (omega (arith, ints, one j b, e));
  others = λ j l b c f g ne. none j l b c ne;
  killed = λ j b f. tt;
  only = λ z s h l b. h l b (all l b);
  count = omega arith;
}

-- v' is the combination of v j and v p that a sends to 0, up to a factor g
pub record Cleared (n : ℕ) (a vj vp v' : ℕ → ℤ) : Type 0 where
  pub g : ℤ
  pub apart : g ≢ pos 0
  pub is : (i : ℕ) → i < n → g *ℤ v' i ≡ dot n a vp *ℤ vj i -ℤ dot n a vj *ℤ vp i

-- a product less the same product with its factors swapped is 0
pub minus_same : (x y : ℤ) → x *ℤ y -ℤ y *ℤ x ≡ pos 0
minus_same x y = omega (arith, lin, *ℤ_comm x y)

-- a multiple of 0 less a multiple of 0 is 0
pub minus_zero : (s t x y : ℤ) → x ≡ pos 0 → y ≡ pos 0 → s *ℤ x -ℤ t *ℤ y ≡ pos 0
minus_zero s t x y e f = omega (arith, lin, ap (λ (d : ℤ). s *ℤ d) e, ap (λ (d : ℤ). t *ℤ d) f, *ℤ-zero s, *ℤ-zero t)

left_zero : (s t x y : ℤ) → y ≡ pos 0 → s *ℤ x -ℤ t *ℤ y ≡ pos 0 → s *ℤ x ≡ pos 0
left_zero s t x y e h = omega (arith, lin, ap (λ (d : ℤ). t *ℤ d) e, *ℤ-zero t, h)

right_zero : (s t x y : ℤ) → x ≡ pos 0 → s *ℤ x -ℤ t *ℤ y ≡ pos 0 → t *ℤ y ≡ pos 0
right_zero s t x y e h = omega (arith, lin, ap (λ (d : ℤ). s *ℤ d) e, *ℤ-zero s, h)

-- if one free coordinate is free no more and all others stay as they are, one more is taken
pub taken_one : (n p : ℕ) (f g : ℕ → Bool) → p < n → f p ≡ true → g p ≡ false → ((i : ℕ) → i ≢ p → g i ≡ f i) → taken n g ≡ suc (taken n f)
taken_one zero p f g l a b h = absurd (omega arith)
taken_one (suc n) zero f g l a b h =
    let e : taken n (λ (i : ℕ). g (suc i)) ≡ taken n (λ (i : ℕ). f (suc i)) = same n (λ (i : ℕ). f (suc i)) (λ (i : ℕ). g (suc i))
    (λ i. h (suc i) (omega arith)) in
    simp (a, b) (omega (arith, e))
  where
    same : (n : ℕ) (f g : ℕ → Bool) → ((i : ℕ) → g i ≡ f i) → taken n g ≡ taken n f
    same zero f g h = refl
    same (suc n) f g h = omega (arith, ap held (h zero), same n (λ (i : ℕ). f (suc i)) (λ (i : ℕ). g (suc i)) (λ i. h (suc i)))
taken_one (suc n) (suc p) f g l a b h =
    omega (
      arith,
      ap held (h zero (omega arith)),
      taken_one n p (λ (i : ℕ). f (suc i)) (λ (i : ℕ). g (suc i)) (omega arith) a b
          (λ i ne. h (suc i) (omega arith)),
    )

module _ (n : ℕ) (free free' : ℕ → Bool) (kept : List (ℕ → ℤ)) (v v' : ℕ → ℕ → ℤ) (a : ℕ → ℤ) (p : ℕ)
    (b : Basis n free kept v) (lp : p < n) (fp : free p ≡ true) (ap_ne : dot n a (v p) ≢ pos 0)
    (off : free' p ≡ false) (rest : (i : ℕ) → i ≢ p → free' i ≡ free i)
    (new : (j : ℕ) → j < n → free j ≡ true → j ≢ p → Cleared n a (v j) (v p) (v' j)) where
  apart_p : (j : ℕ) → free' j ≡ true → j ≢ p
  apart_p j f e = true_false (free' j) f (ap free' e ∙ off)

  still : (j : ℕ) → free' j ≡ true → free j ≡ true
  still j f = sym (rest j (apart_p j f)) ∙ f

  new_own : (j : ℕ) → j < n → free' j ≡ true → v' j j ≢ pos 0
  new_own j l f e =
      let c : Cleared n a (v j) (v p) (v' j) = new j l (still j f) (apart_p j f) in
      let z : v p j ≡ pos 0 = b.others p j lp l fp (still j f) (apart_p j f) in
      let h : dot n a (v p) *ℤ v j j ≡ pos 0 = left_zero (dot n a (v p)) (dot n a (v j)) (v j j) (v p j) z
      (sym (c.is j l) ∙ ap (λ (x : ℤ). c.g *ℤ x) e ∙ *ℤ-zero c.g) in
      b.own j l (still j f) (mul-zero_cases (dot n a (v p)) (v j j) h ap_ne)

  new_others : (j l : ℕ) → j < n → l < n → free' j ≡ true → free' l ≡ true → l ≢ j → v' j l ≡ pos 0
  new_others j l bj bl f g ne =
      let c : Cleared n a (v j) (v p) (v' j) = new j bj (still j f) (apart_p j f) in
      mul-zero_cases c.g (v' j l)
      (c.is l bl ∙ minus_zero (dot n a (v p)) (dot n a (v j)) (v j l) (v p l)
      (b.others j l bj bl (still j f) (still l g) ne)
      (b.others p l lp bl fp (still l g) (apart_p l g)))
      c.apart

  new_killed : (j : ℕ) → j < n → free' j ≡ true → Solves n (v' j) (a ∷ kept)
  new_killed j l f =
      let c : Cleared n a (v j) (v p) (v' j) = new j l (still j f) (apart_p j f) in
      Solves-part n c.g (v' j) (λ (i : ℕ). dot n a (v p) *ℤ v j i -ℤ dot n a (v j) *ℤ v p i) (a ∷ kept) c.apart c.is (
        dot-lin n (dot n a (v p)) (dot n a (v j)) a (v j) (v p) ∙ minus_same (dot n a (v p)) (dot n a (v j)),
        Solves-lin n (dot n a (v p)) (dot n a (v j)) (v j) (v p) kept (b.killed j l (still j f)) (b.killed p lp fp),
      )

  new_only : (z : ℕ → ℤ) → Solves n z (a ∷ kept) → ((l : ℕ) → l < n → free' l ≡ true → z l ≡ pos 0) → (l : ℕ) → l < n → z l ≡ pos 0
  new_only z s h l bl =
      let y : (i : ℕ) → i < n → v p p *ℤ z i -ℤ z p *ℤ v p i ≡ pos 0 =
      b.only (λ (i : ℕ). v p p *ℤ z i -ℤ z p *ℤ v p i) (Solves-lin n (v p p) (z p) z (v p) kept s.1 (b.killed p lp fp))
      (λ i bi f. elim (cases_eq i p) [
        | inl e ↦ subst (λ (k : ℕ). v p p *ℤ z k -ℤ z p *ℤ v p k ≡ pos 0) (sym e) (minus_same (v p p) (z p))
        | inr ne ↦ minus_zero (v p p) (z p) (z i) (v p i) (h i bi (rest i ne ∙ f)) (b.others p i lp bi fp f ne)
      ]) in
      let k : z p *ℤ dot n a (v p) ≡ pos 0 =
      right_zero (v p p) (z p) (dot n a z) (dot n a (v p)) s.0 (sym (dot-lin n (v p p) (z p) a z (v p))
      ∙ dot-zero n a (λ (i : ℕ). v p p *ℤ z i -ℤ z p *ℤ v p i) y) in
      let zp : z p ≡ pos 0 = mul-zero_cases (dot n a (v p)) (z p) (*ℤ_comm (dot n a (v p)) (z p) ∙ k) ap_ne in
      mul-zero_cases (v p p) (z l) (clear (v p p) (z p) (z l) (v p l) zp (y l bl)) (b.own p lp fp)
    where
      clear : (s t x y : ℤ) → t ≡ pos 0 → s *ℤ x -ℤ t *ℤ y ≡ pos 0 → s *ℤ x ≡ pos 0
      clear s t x y e h = omega (arith, lin, ap (λ (d : ℤ). y *ℤ d) e, *ℤ_comm t y, *ℤ-zero y, h)

  -- with p free no more, the rows cleared at p are a basis for the kept rows and one more
  pub step : Basis n free' (a ∷ kept) v'
  step = record {
    own = new_own;
    others = new_others;
    killed = new_killed;
    only = new_only;
    count = omega (arith, b.count, taken_one n p free free' lp fp off rest);
  }
