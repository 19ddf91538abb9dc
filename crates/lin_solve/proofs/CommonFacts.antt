-- The loop of the common denominator.
use Rattle.std.proofs.Common.{List, [], ap, arith, below_more, length, pos, subst, suc, sym, unsigned_abs, zero, ℕ, ℤ, ◌*ℤ◌, ◌*◌, ◌++◌, ◌+◌, ◌<◌, ◌^◌}
use Rattle.std.proofs.Common.{◌∙◌, ◌∷◌, ◌≡◌, ◌≤ℤ◌, ◌≤◌}
use Rattle.std.proofs.lemmas.Int.{ints, unsigned_abs-mul}
use Rattle.std.proofs.Math.IntN.{*ℤ_comm}
use Rattle.wide_num.proofs.Ints.{*ℤ-one, mul_assoc}
use Rattle.lin_solve.specs.declared.pivots.Pivot.{Pivot}
use Rattle.lin_solve.specs.Clearing.{IsWholeOver, IsGrown}
use Rattle.lin_solve.specs.Pivots.{pivot, AreWhole, HaveCommon, IsCommonDen, AreValues}
use Rattle.far_num.specs.Pairs.{both, far_at, near_at, pair_at}
use Rattle.far_num.specs.declared.Far.{Far}
use Rattle.std.proofs.lemmas.List.{get_or_append_left, get_or_push}

factor_below : (d q k t : ℕ) → k ≡ d * q → 1 ≤ k → k ≤ t → d ≤ t
factor_below d zero k t e o l = absurd (omega (arith, e))
factor_below d (suc q) k t e o l = omega (arith, e, l)

one_abs : (k : ℤ) → pos 1 ≤ℤ k → 1 ≤ unsigned_abs k
one_abs k h = omega (arith, ints, h)

-- a number that divides each k over which all are whole is at most such a k
pub den_small : (ps : List Pivot) (den k : ℤ) (top : ℕ) → ((k : ℤ) → AreWhole (length ps) ps k → (q : ℤ) × (k ≡ den *ℤ q))
    → pos 1 ≤ℤ k → AreWhole (length ps) ps k → unsigned_abs k ≤ top → unsigned_abs den ≤ top
den_small ps den k top least p whole l =
    let w = least k whole in
    factor_below (unsigned_abs den) (unsigned_abs w.0) (unsigned_abs k) top (ap unsigned_abs w.1 ∙ unsigned_abs-mul den w.0) (one_abs k p) l

-- a number that divides each k over which all are whole is at most the one that the pivots are known to have
pub den_common : (ps : List Pivot) (den : ℤ) (h : HaveCommon ps) → ((k : ℤ) → AreWhole (length ps) ps k → (q : ℤ) × (k ≡ den *ℤ q))
    → unsigned_abs den ≤ unsigned_abs h.k
den_common ps den h least = den_small ps den h.k (unsigned_abs h.k) least h.positive h.whole (omega arith)

-- if t times the size of y is in the range, so is the size of y times that of an x of at most t in size
pub room_by : (x y : ℤ) (t : ℕ) → unsigned_abs x ≤ t → t * unsigned_abs y < 2 ^ 120 → unsigned_abs x * unsigned_abs y < 2 ^ 120
room_by x y t l h = go (unsigned_abs x) (unsigned_abs y) t l h
  where
    mono : (a b t : ℕ) → a ≤ t → a * b ≤ t * b
    mono a b t l = grind arith

    go : (a b t : ℕ) → a ≤ t → t * b < 2 ^ 120 → a * b < 2 ^ 120
    go a b t l h = omega (arith, mono a b t l, h)

-- a number whose product with the common number of the pivots is in the range is in the range itself
pub alone_small : (ps : List Pivot) (y : ℤ) (h : HaveCommon ps) → unsigned_abs h.k * unsigned_abs y < 2 ^ 120 → unsigned_abs y < 2 ^ 120
alone_small ps y h l = go (unsigned_abs y) (unsigned_abs h.k) (one_abs h.k h.positive) l
  where
    go : (b t : ℕ) → 1 ≤ t → t * b < 2 ^ 120 → b < 2 ^ 120
    go b (suc t) o l = omega (arith, l)
    go b zero o l = absurd (omega arith)

scaled : (c u k f q d : ℤ) → k *ℤ q ≡ d → c *ℤ u ≡ k *ℤ f → c *ℤ (u *ℤ q) ≡ d *ℤ f
scaled c u k f q d e h =
    sym (mul_assoc c u q) ∙ ap (λ (x : ℤ). x *ℤ q) h ∙ mul_assoc k f q ∙ ap (λ (x : ℤ). k *ℤ x) (*ℤ_comm f q) ∙ sym (mul_assoc k q f) ∙ ap (λ (x : ℤ). x *ℤ f) e

-- if the first i pivots are whole over a denominator, one pivot more is whole over the grown one
pub whole_more : (i : ℕ) (ps : List Pivot) (den d : ℤ) → AreWhole i ps den → IsGrown den (pivot ps i).c (pivot ps i).far (pivot ps i).near d
    → AreWhole (i + 1) ps d
whole_more i ps den d h g =
    below_more (λ (j : ℕ). IsWholeOver (pivot ps j).c (pivot ps j).far (pivot ps j).near d) i
    (λ j l. let w = h j l in (
      (w.0.0 *ℤ g.factor, scaled (pivot ps j).c w.0.0 den (pivot ps j).far g.factor d g.multiple w.0.1),
      (w.1.0 *ℤ g.factor, scaled (pivot ps j).c w.1.0 den (pivot ps j).near g.factor d g.multiple w.1.1),
    ))
    ((g.far_part, g.fars), (g.near_part, g.nears))

-- if a denominator divides each k over which all are whole, so does the grown one
pub least_more : (i : ℕ) (ps : List Pivot) (den d : ℤ) → i < length ps → ((k : ℤ) → AreWhole (length ps) ps k → (q : ℤ) × (k ≡ den *ℤ q))
    → IsGrown den (pivot ps i).c (pivot ps i).far (pivot ps i).near d → (k : ℤ) → AreWhole (length ps) ps k → (q : ℤ) × (k ≡ d *ℤ q)
least_more i ps den d l least g k h =
    let m = least k h in
    let w = h i l in
    g.least k m.0 w.0.0 w.1.0 m.1 w.0.1 w.1.1

-- 1 divides each k over which all pivots are whole
pub least_one : (ps : List Pivot) (k : ℤ) → AreWhole (length ps) ps k → (q : ℤ) × (k ≡ pos 1 *ℤ q)
least_one ps k h = (k, sym (*ℤ_comm (pos 1) k ∙ *ℤ-one k))

-- a denominator over which all pivots are whole, and that divides each k of that kind, is the common one
pub finished : (i : ℕ) (ps : List Pivot) (den : ℤ) → i ≡ length ps → pos 1 ≤ℤ den → AreWhole i ps den
    → ((k : ℤ) → AreWhole (length ps) ps k → (q : ℤ) × (k ≡ den *ℤ q)) → IsCommonDen ps den
finished i ps den e p w least = record { positive = p; whole = subst (λ (n : ℕ). AreWhole n ps den) e w; least = least }

-- the values of the first i pivots with the value of the next one pushed are those of i + 1 pivots
pub values_more : (ps : List Pivot) (den : ℤ) (i : ℕ) (xs ys : List Far) (f : Far) → ys ≡ xs ++ f ∷ [] → length xs ≡ i
    → AreValues ps den i (far_at xs) (near_at xs) →
    (pivot ps i).c *ℤ f.far ≡ den *ℤ (pivot ps i).far → (pivot ps i).c *ℤ f.near ≡ den *ℤ (pivot ps i).near → AreValues ps den (i + 1) (far_at ys) (near_at ys)
values_more ps den i xs ys f e l h a b = record {
  far = below_more (λ (k : ℕ). (pivot ps k).c *ℤ far_at ys k ≡ den *ℤ (pivot ps k).far) i
      (λ k lk. ap (λ (t : Far). (pivot ps k).c *ℤ t.far) (front k lk) ∙ h.far k lk)
      (ap (λ (t : Far). (pivot ps i).c *ℤ t.far) back ∙ a);
  near = below_more (λ (k : ℕ). (pivot ps k).c *ℤ near_at ys k ≡ den *ℤ (pivot ps k).near) i
      (λ k lk. ap (λ (t : Far). (pivot ps k).c *ℤ t.near) (front k lk) ∙ h.near k lk)
      (ap (λ (t : Far). (pivot ps i).c *ℤ t.near) back ∙ b);
}
  where
    front : (k : ℕ) → k < i → pair_at ys k ≡ pair_at xs k
    front k lk = ap (λ (zs : List Far). pair_at zs k) e ∙ get_or_append_left xs (f ∷ []) (both (pos 0)) k (omega (arith, l, lk))

    back : pair_at ys i ≡ f
    back = ap (λ (zs : List Far). pair_at zs i) e ∙ get_or_push xs f (both (pos 0)) i l
