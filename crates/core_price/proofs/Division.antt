-- The answer of a turn divided by a common divisor is an answer again: each of its clauses is linear.
use Rattle.std.specs.Prelude.{◌≡◌, ◌≢◌, ℕ, zero, suc, ◌+◌, ◌<◌, ◌≤◌, ◌^◌, List, length, ℤ, pos, negsuc, ◌-ℤ◌, ◌*ℤ◌, ◌≤ℤ◌, ◌<ℤ◌, unsigned_abs, refl}
use Rattle.std.proofs.Common.{sym, ◌∙◌, ap, arith, subst}
use Rattle.std.proofs.lemmas.Int.{ints, unsigned_abs-mul}
use Rattle.std.proofs.Math.IntN.{*ℤ-zero}
use Rattle.far_num.specs.declared.Row.{Row}
use Rattle.nearest_point.specs.Numbers.{is_zero, pairs_used}
use Rattle.nearest_point.specs.Problem.{bounds, coefficients, weight_at}
use Rattle.nearest_point.specs.Shown.{IsShownNearest}
use Rattle.projection_laws.specs.Multipliers.{sum_at}
use Rattle.projection_laws.proofs.Order.{cancel_nonneg}
use Rattle.wide_num.proofs.Ints.{lin, mul-sub, mul-zero_cases, mul_assoc, mul_cancel, swap_mul}
use Rattle.wide_num.proofs.Sums.{dot-same, dot-scale, dot-scale_left, total-same}
use Rattle.wide_num.specs.Sums.{dot, nth}
use Rattle.lin_solve.specs.Elimination.{AreQuotients}
use Rattle.core_price.specs.Lowest.{IsMultiple}

-- a number above 0 isn't 0
pub not-zero : (g : ℤ) → pos 0 <ℤ g → g ≢ pos 0
not-zero g p e = absurd (omega (arith, ints))

cancel_positive : (g x : ℤ) → pos 0 <ℤ g → pos 0 <ℤ (g *ℤ x) → pos 0 <ℤ x
cancel_positive g (pos zero) p h = absurd (omega (arith, ints))
cancel_positive g (pos (suc x)) p h = omega (arith, ints)
cancel_positive g (negsuc x) p h = absurd (let q = cancel_nonneg g (negsuc x) p (omega (arith, ints)) in omega (arith, ints))

cancel_le : (g x y : ℤ) → pos 0 <ℤ g → (g *ℤ x) ≤ℤ (g *ℤ y) → x ≤ℤ y
cancel_le g x y p h =
    let k : pos 0 ≤ℤ (g *ℤ (y -ℤ x)) = (let e = mul-sub g y x in omega (arith, lin, e, h)) in
    let q = cancel_nonneg g (y -ℤ x) p k in
    omega (arith, lin, q)

-- a factor is no larger than its product with a positive number
factor_size : (g x : ℤ) → pos 0 <ℤ g → unsigned_abs x ≤ unsigned_abs (g *ℤ x)
factor_size (pos zero) x p = absurd (omega (arith, ints))
factor_size (pos (suc g)) x p = let e = unsigned_abs-mul (pos (suc g)) x in omega (arith, e)
factor_size (negsuc g) x p = absurd (omega (arith, ints))

-- a number is below what its size is below
pub size-below : (x : ℤ) (n : ℕ) → unsigned_abs x < n → x <ℤ pos n
size-below (pos x) n h = omega (arith, ints)
size-below (negsuc x) n h = omega (arith, ints)

below-size : (x : ℤ) (n : ℕ) → pos 0 <ℤ x → x <ℤ pos n → unsigned_abs x < n
below-size (pos x) n p h = omega (arith, ints)
below-size (negsuc x) n p h = absurd (omega (arith, ints))

some-product : (g x : ℤ) → pos 0 <ℤ g → g *ℤ x ≡ pos 0 → x ≢ pos 0 → ⊥
some-product g x p e d = d (mul-zero_cases g x e (not-zero g p))

-- a number is 0 just if its product with a positive number is
zero_same : (g x y : ℤ) → pos 0 <ℤ g → g *ℤ x ≡ y → is_zero x ≡ is_zero y
zero_same g (pos zero) y p e = ap is_zero (sym (*ℤ-zero g) ∙ e)
zero_same g (pos (suc x)) (pos zero) p e = absurd (some-product g (pos (suc x)) p e (λ h. let k : suc x ≡ 0 = ap unsigned_abs h in omega (arith, k)))
zero_same g (pos (suc x)) (pos (suc y)) p e = refl
zero_same g (pos (suc x)) (negsuc y) p e = refl
zero_same g (negsuc x) (pos zero) p e = absurd (some-product g (negsuc x) p e (λ h. let k : suc x ≡ 0 = ap unsigned_abs h in omega (arith, k)))
zero_same g (negsuc x) (pos (suc y)) p e = refl
zero_same g (negsuc x) (negsuc y) p e = refl

pairs_same : (n : ℕ) (first second all_first all_second : ℕ → ℤ) → ((i : ℕ) → i < n → is_zero (first i) ≡ is_zero (all_first i))
    → ((i : ℕ) → i < n → is_zero (second i) ≡ is_zero (all_second i))
    → pairs_used n first second ≡ pairs_used n all_first all_second
pairs_same zero first second all_first all_second f s = refl
pairs_same (suc n) first second all_first all_second f s =
    rw (
      pairs_same n first second all_first all_second (λ i lt. f i (omega (arith, lt))) (λ i lt. s i (omega (arith, lt))),
      f n (omega arith),
      s n (omega arith),
    ) refl

module _ (prices : List ℤ) (weights : List ℕ) (rows : List Row) (g den : ℤ) (at first second : List ℤ) (all_den : ℤ) (all_at all_first all_second : List ℤ)
    (h : IsMultiple g den at first second all_den all_at all_first all_second)
    (a : IsShownNearest prices weights rows all_den all_at all_first all_second) where
  some : g ≢ pos 0
  some = not-zero g h.positive

  row-times : (i : ℕ) → dot (length prices) (coefficients rows i) (nth all_at) ≡ g *ℤ dot (length prices) (coefficients rows i) (nth at)
  row-times i = sym (dot-same (length prices) (coefficients rows i) (λ j. g *ℤ nth at j) (nth all_at) (λ j lt. h.at_is.is j (omega (arith, lt, a.long_at))))
      ∙ dot-scale (length prices) g (coefficients rows i) (nth at)

  bound-times : (i : ℕ) → all_den *ℤ bounds rows i ≡ g *ℤ (den *ℤ bounds rows i)
  bound-times i = ap (λ (t : ℤ). t *ℤ bounds rows i) (sym h.den_is) ∙ mul_assoc g den (bounds rows i)

  sum-times : (list all : List ℤ) → AreQuotients g all list → length all ≡ length rows → (j : ℕ) → sum_at (length rows) (coefficients rows)
      (nth all) j ≡ g *ℤ sum_at (length rows) (coefficients rows) (nth list) j
  sum-times list all k long j =
      total-same (length rows) (λ i. nth all i *ℤ coefficients rows i j) (λ i. g *ℤ nth list i *ℤ coefficients rows i j)
      (λ i lt. ap (λ (t : ℤ). t *ℤ coefficients rows i j) (sym (k.is i (omega (arith, lt, long)))))
      ∙ dot-scale_left (length rows) g (nth list) (λ i. coefficients rows i j)

  first-is : (i : ℕ) → i < length rows → g *ℤ nth first i ≡ nth all_first i
  first-is i lt = h.first_is.is i (omega (arith, lt, a.long_first))

  second-is : (i : ℕ) → i < length rows → g *ℤ nth second i ≡ nth all_second i
  second-is i lt = h.second_is.is i (omega (arith, lt, a.long_second))

  tight-too : (i : ℕ) → dot (length prices) (coefficients rows i) (nth all_at) ≡ all_den *ℤ bounds rows i
      → dot (length prices) (coefficients rows i) (nth at) ≡ den *ℤ bounds rows i
  tight-too i e = mul_cancel g (dot (length prices) (coefficients rows i) (nth at)) (den *ℤ bounds rows i) some (sym (row-times i) ∙ e ∙ bound-times i)

  den-positive : pos 0 <ℤ den
  den-positive = cancel_positive g den h.positive (subst (λ (t : ℤ). pos 0 <ℤ t) (sym h.den_is) a.meets.positive)

  nonneg-too : (x y : ℤ) → g *ℤ x ≡ y → pos 0 ≤ℤ y → pos 0 ≤ℤ x
  nonneg-too x y e low = cancel_nonneg g x h.positive (subst (λ (t : ℤ). pos 0 ≤ℤ t) (sym e) low)

  zero-too : (x y : ℤ) → g *ℤ x ≡ y → x ≡ pos 0 → y ≡ pos 0
  zero-too x y e z = sym e ∙ ap (λ (t : ℤ). g *ℤ t) z ∙ *ℤ-zero g

  other-too : (x y : ℤ) → g *ℤ x ≡ y → x ≢ pos 0 → y ≢ pos 0
  other-too x y e d z = d (mul-zero_cases g x (e ∙ z) some)

  second-sum : (j : ℕ) → j < length prices → weight_at weights j *ℤ sum_at (length rows) (coefficients rows) (nth second) j ≡ nth at j -ℤ den *ℤ nth prices j
  second-sum j lt =
      let n = h.at_is.is j (omega (arith, lt, a.long_at)) in
      mul_cancel g (weight_at weights j *ℤ sum_at (length rows) (coefficients rows) (nth second) j) (nth at j -ℤ den *ℤ nth prices j) some
      (swap_mul g (weight_at weights j) (sum_at (length rows) (coefficients rows) (nth second) j)
      ∙ ap (λ (t : ℤ). weight_at weights j *ℤ t) (sym (sum-times second all_second h.second_is a.long_second j))
      ∙ a.seconds.sums j lt
      ∙ ap (λ (t : ℤ). t -ℤ all_den *ℤ nth prices j) (sym n)
      ∙ ap (λ (t : ℤ). g *ℤ nth at j -ℤ t) (ap (λ (t : ℤ). t *ℤ nth prices j) (sym h.den_is) ∙ mul_assoc g den (nth prices j))
      ∙ sym (mul-sub g (nth at j) (den *ℤ nth prices j)))

  den-below : (top : ℕ) → all_den <ℤ pos top → den <ℤ pos top
  den-below top small = size-below den top (let f = factor_size g den h.positive in let e = ap unsigned_abs h.den_is in let k =
      below-size all_den top a.meets.positive small in omega (arith, f, e, k))

  -- an answer whose numbers are all divided by the same number is an answer
  pub answer-divided : IsShownNearest prices weights rows den at first second
  answer-divided = record {
    long_at = h.at_is.long ∙ a.long_at;
    long_first = h.first_is.long ∙ a.long_first;
    long_second = h.second_is.long ∙ a.long_second;
    meets = record {
      positive = den-positive;
      above = λ i lt. cancel_le g (den *ℤ bounds rows i) (dot (length prices) (coefficients rows i) (nth at)) h.positive
          (subst (λ (t : ℤ). t ≤ℤ (g *ℤ dot (length prices) (coefficients rows i) (nth at))) (bound-times i)
          (subst (λ (t : ℤ). (all_den *ℤ bounds rows i) ≤ℤ t) (row-times i) (a.meets.above i lt)));
    };
    firsts = record {
      positive = den-positive;
      not_negative = λ i lt. nonneg-too (nth first i) (nth all_first i) (first-is i lt) (a.firsts.not_negative i lt);
      tight = λ i lt d. tight-too i (a.firsts.tight i lt (other-too (nth first i) (nth all_first i) (first-is i lt) d));
    };
    sums = λ j lt. mul_cancel g (sum_at (length rows) (coefficients rows) (nth first) j) den some
        (sym (sum-times first all_first h.first_is a.long_first j) ∙ a.sums j lt ∙ sym h.den_is);
    seconds = record {
      sign = λ i lt z. nonneg-too (nth second i) (nth all_second i) (second-is i lt)
          (a.seconds.sign i lt (zero-too (nth first i) (nth all_first i) (first-is i lt) z));
      tight = λ i lt d. tight-too i (a.seconds.tight i lt (other-too (nth second i) (nth all_second i) (second-is i lt) d));
      sums = second-sum;
    };
    small_den = (let k = den-below (320 ^ 4 + 1) (let s = a.small_den in omega (arith, ints, s)) in omega (arith, ints, k));
    den_of_ones = λ ones. den-below (2 ^ 32) (a.den_of_ones ones);
    small_at = λ i lt. (let l : i < length all_at = omega (arith, lt, h.at_is.long) in let f = factor_size g (nth at i) h.positive in let e =
        ap unsigned_abs (h.at_is.is i l) in let k = a.small_at i l in omega (arith, f, e, k));
    small_first = λ i lt. (let l : i < length all_first = omega (arith, lt, h.first_is.long) in let f = factor_size g (nth first i) h.positive in let e =
        ap unsigned_abs (h.first_is.is i l) in let k = a.small_first i l in omega (arith, f, e, k));
    small_second = λ i lt. (let l : i < length all_second = omega (arith, lt, h.second_is.long) in let f = factor_size g (nth second i) h.positive in let e =
        ap unsigned_abs (h.second_is.is i l) in let k = a.small_second i l in omega (arith, f, e, k));
    few =
        let same = pairs_same (length rows) (nth first) (nth second) (nth all_first) (nth all_second)
        (λ i lt. zero_same g (nth first i) (nth all_first i) h.positive (first-is i lt))
        (λ i lt. zero_same g (nth second i) (nth all_second i) h.positive (second-is i lt)) in
        omega (arith, same, a.few);
  }
