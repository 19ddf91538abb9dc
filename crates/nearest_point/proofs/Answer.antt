-- What the search found at one large t gives the point and both families of multipliers.
use Rattle.std.proofs.Common.{◌≡◌, ℕ, zero, suc, ◌<◌, ◌≤◌, arith, refl, sym, ap, ◌∙◌, List, [], length, subst}
use Rattle.std.specs.Prelude.{ℤ, pos, ◌*ℤ◌, ◌-ℤ◌, ◌≤ℤ◌, ◌<ℤ◌}
use Rattle.std.proofs.lemmas.Int.{ints}
use Rattle.wide_num.specs.Sums.{dot}
use Rattle.nearest_point.specs.Search.{Near, ByParts}
use Rattle.nearest_point.specs.Numbers.{place, at_t, pairs_used, spread}
use Rattle.wide_num.proofs.Sums.{total-same, total-zero}
use Rattle.projection_laws.proofs.Order.{mul_nonneg}
use Rattle.projection_laws.specs.Points.{MeetsRows}
use Rattle.projection_laws.specs.Multipliers.{AreFirst, AreSecond, SumsTo}
use Rattle.projection_laws.proofs.PointLaws.{times_zero}
use Rattle.nearest_point.proofs.Parts.{FarSign, columns_first, dot-at_t, far_nonneg, plain, sign-at_t, spread_few, spread_first, spread_listed}
use Rattle.nearest_point.proofs.Parts.{spread_second, spread_sum}

-- the answer of `nearest`
pub record Answer (m r : ℕ) (a : ℕ → ℕ → ℤ) (b target weight : ℕ → ℤ) (den : ℤ) (point first second : ℕ → ℤ) : Type 0 where
  pub meets : MeetsRows m r a b den point
  pub firsts : AreFirst m r a b den point first
  pub sums : SumsTo m r a den first
  pub seconds : AreSecond m r a b den point first second target weight
  pub few : pairs_used r first second ≤ m

-- a point right at one large t, with no row forced, gives its near part and multipliers by row as an answer
pub answer : (m r : ℕ) (a : ℕ → ℕ → ℤ) (b target weight : ℕ → ℤ) → ((j : ℕ) → j < m → pos 0 <ℤ weight j) → ((i j : ℕ) → pos 0 ≤ℤ a i j)
    → ((j : ℕ) → j < m → (k : ℕ) × (k < r) × (pos 0 ≤ℤ b k) × ((y : ℕ → ℤ) → dot m (a k) y ≡ y j))
    → (t : ℤ) → pos 0 <ℤ t → (rows : List ℕ) (den : ℤ) (pf pn lf ln : ℕ → ℤ)
    → ((j : ℕ) → j < m → pn j <ℤ t) → ((i : ℕ) → i < length rows → ln i <ℤ t)
    → ByParts m a b target weight rows den pf pn lf ln
    → Near m r a b (at_t t (λ j. pos 0 -ℤ weight j) target) weight [] 0 rows den (at_t t pf pn) (at_t t lf ln)
    → length rows ≤ m
    → Answer m r a b target weight den pn (spread (length rows) (place rows) lf) (spread (length rows) (place rows) ln)
answer m r a b target weight wp entries single t tp rows den pf pn lf ln small_p small_l p h fits =
    let n : ℕ = length rows in
    let within : (i : ℕ) → i < n → place rows i < r = λ i lt. (h.above i (omega arith) lt).1 in
    let low : (j : ℕ) → j < m → pos 0 ≤ℤ pf j = λ j lt. by_single j lt (single j lt) in
    let zero_far : (j : ℕ) → j < m → pf j ≡ pos 0 = plain m n (λ i. a (place rows i)) den pf lf weight wp p.far p.tight_far
    (λ i j. entries (place rows i) j) low in
    let s : FarSign n lf ln = sign-at_t n t lf ln tp small_l (λ i lt. h.taken.sign i (omega arith) lt) in
    let listed_tight : (k : ℕ) → k < r → (i : ℕ) × (i < n) × (place rows i ≡ k) → dot m (a k) pn ≡ den *ℤ b k =
    λ k lk (i, li, e). subst (λ (q : ℕ). dot m (a q) pn ≡ den *ℤ b q) e (p.tight_near i li) in
    record {
      meets = record {
        positive = p.far.positive;
        above = λ k lt. (let g = h.meets k (omega arith) lt in
            let o = dot-at_t m (a k) t pf pn in
            let z : dot m (a k) pf ≡ pos 0 = total-zero m (λ j. a k j *ℤ pf j) (λ j lj. times_zero (a k j) (pf j) (zero_far j lj)) in
            let zt : dot m (a k) pf *ℤ t ≡ pos 0 *ℤ t = ap (λ (w : ℤ). w *ℤ t) z in
            omega (arith, ints));
      };
      firsts = record {
        positive = p.far.positive;
        not_negative = λ k lt. spread_first n (place rows) lf ln k s;
        tight = λ k lt nz. listed_tight k lt (spread_listed n (place rows) lf k nz);
      };
      sums = λ j lt. spread_sum r n (place rows) lf (λ k. a k j) within ∙ columns_first m n (λ i. a (place rows i)) den pf lf weight wp p.far j lt
          (zero_far j lt);
      seconds = record {
        sign = λ k lt e. spread_second n (place rows) lf ln k s e;
        tight = λ k lt nz. listed_tight k lt (spread_listed n (place rows) ln k nz);
        sums = λ j lt. ap (λ (w : ℤ). weight j *ℤ w) (spread_sum r n (place rows) ln (λ k. a k j) within) ∙ (let e = p.near.at j lt in omega (arith, ints));
      };
      few = (let f = spread_few r n (place rows) lf ln within in omega arith);
    }
  where
    by_single : (j : ℕ) → j < m → (k : ℕ) × (k < r) × (pos 0 ≤ℤ b k) × ((y : ℕ → ℤ) → dot m (a k) y ≡ y j) → pos 0 ≤ℤ pf j
    by_single j lt (k, lk, bp, is) =
        let g = h.meets k (omega arith) lk in
        let e = is (at_t t pf pn) in
        let d = not_below den (b k) p.far.positive bp in
        far_nonneg t (pf j) (pn j) tp (small_p j lt) (omega (arith, ints))
      where
        not_below : (d x : ℤ) → pos 0 <ℤ d → pos 0 ≤ℤ x → pos 0 ≤ℤ (d *ℤ x)
        not_below d x dp xp = mul_nonneg d x (omega (arith, ints)) xp

-- numbers that agree below r serve as well
pairs_same : (r : ℕ) (f g f' g' : ℕ → ℤ) → ((i : ℕ) → i < r → f' i ≡ f i) → ((i : ℕ) → i < r → g' i ≡ g i) → pairs_used r f' g' ≡ pairs_used r f g
pairs_same zero f g f' g' e d = refl
pairs_same (suc r) f g f' g' e d = let p = pairs_same r f g f' g' (λ i lt. e i (omega arith)) (λ i lt. d i (omega arith)) in
    rw (p, e r (omega arith), d r (omega arith)) refl

-- an answer stays one with multipliers that are the same at each row
pub answer_same : (m r : ℕ) (a : ℕ → ℕ → ℤ) (b target weight : ℕ → ℤ) (den : ℤ) (point first second first' second' : ℕ → ℤ)
    → ((i : ℕ) → i < r → first' i ≡ first i) → ((i : ℕ) → i < r → second' i ≡ second i)
    → Answer m r a b target weight den point first second → Answer m r a b target weight den point first' second'
answer_same m r a b target weight den point first second first' second' e d h = record {
  meets = h.meets;
  firsts = record {
    positive = h.firsts.positive;
    not_negative = λ i lt. subst (λ (z : ℤ). pos 0 ≤ℤ z) (sym (e i lt)) (h.firsts.not_negative i lt);
    tight = λ i lt nz. h.firsts.tight i lt (λ z. nz (e i lt ∙ z));
  };
  sums = λ j lt. total-same r (λ i. first' i *ℤ a i j) (λ i. first i *ℤ a i j) (λ i li. ap (λ (z : ℤ). z *ℤ a i j) (e i li)) ∙ h.sums j lt;
  seconds = record {
    sign = λ i lt z. subst (λ (w : ℤ). pos 0 ≤ℤ w) (sym (d i lt)) (h.seconds.sign i lt (sym (e i lt) ∙ z));
    tight = λ i lt nz. h.seconds.tight i lt (λ z. nz (d i lt ∙ z));
    sums = λ j lt. ap (λ (w : ℤ). weight j *ℤ w) (total-same r (λ i. second' i *ℤ a i j) (λ i. second i *ℤ a i j)
        (λ i li. ap (λ (z : ℤ). z *ℤ a i j) (d i li))) ∙ h.seconds.sums j lt;
  };
  few = rw (pairs_same r first second first' second' e d) h.few;
}
