-- The pivots have a common denominator, and the values over it are the only solution.
use Rattle.std.proofs.Common.{◌≡◌, ◌≢◌, ℕ, ◌+◌, ◌*◌, ◌^◌, ◌<◌, ◌≤◌, ℤ, pos, ◌-ℤ◌, ◌*ℤ◌, sym, ap, ◌∙◌, subst, arith, unsigned_abs, List, length}
use Rattle.std.proofs.lemmas.Int.{ints, unsigned_abs-mul}
use Rattle.std.proofs.Math.Nat.{mul-le-mul}
use Rattle.wide_num.proofs.Ints.{abs_pos, lin, swap_mul}
use Rattle.far_num.specs.declared.Far.{Far}
use Rattle.lin_solve.specs.declared.pivots.Pivot.{Pivot}
use Rattle.lin_solve.specs.Matrix.{row, OnlyZero}
use Rattle.lin_solve.specs.Bounds.{bound, AreSized}
use Rattle.lin_solve.specs.Clearing.{IsClearing}
use Rattle.wide_num.specs.Sums.{dot, nth}
use Rattle.lin_solve.specs.Pivots.{pivot, ArePivots, AreWhole, HaveCommon, IsCommonDen, AreValues}
use Rattle.lin_solve.specs.declared.solved.Solved.TheVariants.{One}
use Rattle.lin_solve.specs.Solved.{Satisfies, IsOnly, IsOneSolution, IsSmallAnswer, IsSystem, IsWithinLimits, most}
use Rattle.far_num.specs.Pairs.{far_at, near_at}
use Rattle.wide_num.proofs.Sums.{dot-lin, dot-same, dot-scale, total-same}
use Rattle.lin_solve.proofs.Inverse.{Clears, Injective, pick, pivot as pivot_apart, solution}
use Rattle.lin_solve.proofs.CommonFacts.{den_small}
use Rattle.lin_solve.proofs.PivotFacts.{c_small, part_small}
use Rattle.lin_solve.proofs.Shared.{Common, common}

-- a list that is a clearing for column i isn't all 0 and has the product 0 with each column but that one
pub clears_of : (i : ℕ) (lines : List (List ℤ)) (f : List ℤ) → IsClearing lines i f → Clears (length lines) (row lines) (nth f) i
clears_of i lines f c = record { place = c.place; below = c.below; apart = c.apart; clear = c.clear }

module _ (lines : List (List ℤ)) (fars nears : List ℤ) (ps : List Pivot) (system : IsSystem lines fars nears) (only : OnlyZero (length lines) lines)
    (long : length ps ≡ length lines) (are : ArePivots lines (nth fars) (nth nears) (length lines) ps) where
  signs : (k i : ℕ) → k < length lines → i < length lines → pos (unsigned_abs (row lines k i)) ≡ row lines k i
  signs = system.signs

  plain : (k : ℕ) → k < length lines → (z : ℕ → ℤ) → dot (length lines) (λ (i : ℕ). pos (unsigned_abs (row lines k i))) z ≡ dot (length lines) (row lines k) z
  plain k l z = total-same (length lines) (λ (i : ℕ). pos (unsigned_abs (row lines k i)) *ℤ z i) (λ (i : ℕ). row lines k i *ℤ z i)
      (λ i li. ap (λ (x : ℤ). x *ℤ z i) (signs k i l li))

  inj : Injective (length lines) (λ (m i : ℕ). pos (unsigned_abs (row lines m i)))
  inj z h i l = only z (λ k lk. sym (plain k lk z) ∙ h k lk) i l

  shared_by : (limit : ℕ) → 1 ≤ limit → AreSized limit (length lines) lines → Common (length lines) limit (λ (m i : ℕ). pos (unsigned_abs (row lines m i)))
      (nth fars) (nth nears)
  shared_by limit some sized = common (length lines) limit (λ (m i : ℕ). unsigned_abs (row lines m i)) (nth fars) (nth nears) some inj sized

  product_of : (f v r : ℕ → ℤ) (k : ℤ) (i : ℕ) → i < length lines → Clears (length lines) (row lines) f i
      → ((m : ℕ) → m < length lines → dot (length lines) (row lines m) v ≡ k *ℤ r m) →
      dot (length lines) f (λ (m : ℕ). row lines m i) *ℤ v i ≡ k *ℤ dot (length lines) f r
  product_of f v r k i l c h =
      sym (pick (length lines) (row lines) f v i l c.clear)
      ∙ dot-same (length lines) f (λ (m : ℕ). dot (length lines) (row lines m) v) (λ (m : ℕ). k *ℤ r m) h
      ∙ dot-scale (length lines) k f r

  low : (i : ℕ) → i < length ps → i < length lines
  low i l = subst (λ (n : ℕ). i < n) long l

  two : (c far x d e : ℤ) → c ≡ e → far ≡ d → (k : ℤ) → e *ℤ x ≡ k *ℤ d → c *ℤ x ≡ k *ℤ far
  two c far x d e h g k l = ap (λ (t : ℤ). t *ℤ x) h ∙ l ∙ ap (λ (t : ℤ). k *ℤ t) (sym g)

  whole_by : (limit : ℕ) (shared : Common (length lines) limit (λ (m i : ℕ). pos (unsigned_abs (row lines m i))) (nth fars) (nth nears))
      → AreWhole (length ps) ps (pos shared.den)
  whole_by limit shared i l =
      let p = are i (low i l) in
      let c = clears_of i lines p.f p.clearing in (
        (
          shared.p i,
          two (pivot ps i).c (pivot ps i).far (shared.p i) _ _ p.c_is p.far_is (pos shared.den)
              (product_of (nth p.f) shared.p (nth fars) (pos shared.den) i (low i l) c (λ m lm. sym (plain m lm shared.p) ∙ shared.p_is m lm)),
        ),
        (
          shared.q i,
          two (pivot ps i).c (pivot ps i).near (shared.q i) _ _ p.c_is p.near_is (pos shared.den)
              (product_of (nth p.f) shared.q (nth nears) (pos shared.den) i (low i l) c (λ m lm. sym (plain m lm shared.q) ∙ shared.q_is m lm)),
        ),
      )

  mono : (k t x y r : ℕ) → k ≤ t → x ≤ y → t * y < r → k * x < r
  mono k t x y r g h l = below (k * x) (t * y) r (mul-le-mul g h) l
    where
      below : (a b c : ℕ) → a ≤ b → b < c → a < c
      below a b c h l = omega arith

  wider : (x : ℕ) → x < 2 ^ 119 → x < 2 ^ 120
  wider x h = omega (arith, h)

  own_shared : Common (length lines) system.limit (λ (m i : ℕ). pos (unsigned_abs (row lines m i))) (nth fars) (nth nears)
  own_shared = shared_by system.limit system.within.some system.within.sized

  -- the pivots are whole over some number, whose products with all their parts stay in the range
  pub have_common : HaveCommon ps
  have_common = record {
    k = pos own_shared.den;
    positive = omega (arith, ints, own_shared.some);
    whole = whole_by system.limit own_shared;
    apart = λ i l e.
        let p = are i (low i l) in
        pivot_apart (length lines) (row lines) only (nth p.f) i (low i l) (clears_of i lines p.f p.clearing) (sym p.c_is ∙ e);
    cs = λ i l.
        let p = are i (low i l) in
        mono own_shared.den (system.limit ^ length lines) (unsigned_abs (pivot ps i).c) (system.limit * bound system.limit (length lines))
        (2 ^ 120) own_shared.small
        (c_small i system.limit lines p.f p.clearing system.within.some system.within.columns (pivot ps i).c p.c_is (low i l)) system.cs;
    fars = λ i l.
        let p = are i (low i l) in
        wider (own_shared.den * unsigned_abs (pivot ps i).far)
        (mono own_shared.den (system.limit ^ length lines) (unsigned_abs (pivot ps i).far) (length lines * bound system.limit (length lines) * system.edge)
        (2 ^ 119) own_shared.small
        (part_small i system.limit lines p.f p.clearing system.within.some system.within.columns (nth fars) system.edge
        (pivot ps i).far p.far_is system.within.far_sizes) system.parts);
    nears = λ i l.
        let p = are i (low i l) in
        wider (own_shared.den * unsigned_abs (pivot ps i).near)
        (mono own_shared.den (system.limit ^ length lines) (unsigned_abs (pivot ps i).near) (length lines * bound system.limit (length lines) * system.edge)
        (2 ^ 119) own_shared.small
        (part_small i system.limit lines p.f p.clearing system.within.some system.within.columns (nth nears) system.edge
        (pivot ps i).near p.near_is system.within.near_sizes) system.parts);
  }

  -- no other values over any e
  others : (x r : ℕ → ℤ) (d : ℤ) → Satisfies lines x d r → IsOnly lines x d r
  others x r d h = record {
    solves = h;
    only = λ y e g i l.
        minus_out (d *ℤ y i) (e *ℤ x i)
        (only (λ (i : ℕ). d *ℤ y i -ℤ e *ℤ x i)
        (λ k lk. dot-lin (length lines) d e (row lines k) y x ∙ equal_out d e (dot (length lines) (row lines k) y) (dot (length lines) (row lines k) x) (r k)
        (g k lk) (h k lk)) i l);
  }
    where
      minus_out : (x y : ℤ) → x -ℤ y ≡ pos 0 → x ≡ y
      minus_out x y h = omega (arith, lin, h)

      equal_out : (d e p q r : ℤ) → p ≡ e *ℤ r → q ≡ d *ℤ r → d *ℤ p -ℤ e *ℤ q ≡ pos 0
      equal_out d e p q r h g = omega (arith, lin, ap (λ (t : ℤ). d *ℤ t) h, ap (λ (t : ℤ). e *ℤ t) g, swap_mul d e r)

  module _ (den : ℤ) (values : List Far) (cd : IsCommonDen ps den) (lv : length values ≡ length ps)
      (av : AreValues ps den (length ps) (far_at values) (near_at values)) where
    up : (i : ℕ) → i < length lines → i < length ps
    up i l = subst (λ (n : ℕ). i < n) (sym long) l

    -- the values of the pivots over their common denominator are the only solution of the system, for both parts
    pub one_solution : IsOneSolution lines (nth fars) (nth nears) den values
    one_solution = record {
      positive = cd.positive;
      long = lv ∙ long;
      far = others (far_at values) (nth fars) den
          (solution (length lines) (row lines) only (nth fars) (far_at values) den
          (λ i l. let p = are i l in (
            nth p.f,
            clears_of i lines p.f p.clearing,
            ap (λ (t : ℤ). t *ℤ far_at values i) (sym p.c_is) ∙ av.far i (up i l)
                ∙ ap (λ (t : ℤ). den *ℤ t) p.far_is,
          )));
      near = others (near_at values) (nth nears) den
          (solution (length lines) (row lines) only (nth nears) (near_at values) den
          (λ i l. let p = are i l in (
            nth p.f,
            clears_of i lines p.f p.clearing,
            ap (λ (t : ℤ). t *ℤ near_at values i) (sym p.c_is) ∙ av.near i (up i l)
                ∙ ap (λ (t : ℤ). den *ℤ t) p.near_is,
          )));
    }

    value_small : (c x d f : ℤ) (top e : ℕ) → c ≢ pos 0 → c *ℤ x ≡ d *ℤ f → unsigned_abs d ≤ top → unsigned_abs f ≤ e → unsigned_abs x < top * e + 1
    value_small c x d f top e nc h ld lf =
        go (unsigned_abs c) (unsigned_abs x) (unsigned_abs d) (unsigned_abs f) (abs_pos c nc)
        (sym (unsigned_abs-mul c x) ∙ ap unsigned_abs h ∙ unsigned_abs-mul d f) ld lf
      where
        factor_le : (c x p : ℕ) → 0 < c → c * x ≡ p → x ≤ p
        factor_le c x p l e = grind arith

        go : (c x d f : ℕ) → 0 < c → c * x ≡ d * f → d ≤ top → f ≤ e → x < top * e + 1
        go c x d f l h a b = let p : d * f ≤ top * e = mul-le-mul a b in omega (arith, factor_le c x (d * f) l h, p)

    module _ (limit edge : ℕ) (w : IsWithinLimits limit edge lines fars nears) where
      by_limit : Common (length lines) limit (λ (m i : ℕ). pos (unsigned_abs (row lines m i))) (nth fars) (nth nears)
      by_limit = shared_by limit w.some w.sized

      den_within : unsigned_abs den ≤ limit ^ length lines
      den_within = den_small ps den (pos by_limit.den) (limit ^ length lines) cd.least (omega (arith, ints, by_limit.some))
          (whole_by limit by_limit) by_limit.small

      -- by each limit that the system keeps, the answer of this denominator and these values is small
      pub small_answer : IsSmallAnswer (limit ^ length lines + 1) (most limit edge (length lines) + 1) (One den values)
      small_answer = (
        omega (arith, den_within),
        λ i l.
            let li : i < length ps = subst (λ (n : ℕ). i < n) lv l in
            let p = are i (low i li) in
            let hc : HaveCommon ps = have_common in (
              value_small (pivot ps i).c (far_at values i) den (pivot ps i).far (limit ^ length lines) (length lines * bound limit (length lines) * edge)
                  (hc.apart i li) (av.far i li) den_within
                  (part_small i limit lines p.f p.clearing w.some w.columns (nth fars) edge (pivot ps i).far p.far_is w.far_sizes),
              value_small (pivot ps i).c (near_at values i) den (pivot ps i).near (limit ^ length lines) (length lines * bound limit (length lines) * edge)
                  (hc.apart i li) (av.near i li) den_within
                  (part_small i limit lines p.f p.clearing w.some w.columns (nth nears) edge (pivot ps i).near p.near_is w.near_sizes),
            ),
      )
