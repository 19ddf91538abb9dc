-- Equations between polynomials over ℤ, by computing. An equation is written twice as an `Expr`, and `ring` turns the test that the difference has only zero coefficients into the equation.
use Rattle.std.proofs.Common.{◌≡◌, ℕ, zero, suc, arith, refl, sym, ap, ◌∙◌, Bool, true, false, cond, List, [], ◌∷◌}
use Rattle.std.specs.Prelude.{ℤ, pos, negsuc, ◌+ℤ◌, ◌*ℤ◌, ◌-ℤ◌}
use Rattle.std.proofs.lemmas.Int.{ints}
use Rattle.std.proofs.Math.IntN.{*ℤ_comm}
use Rattle.wide_num.proofs.Ints.{mul-add, mul_assoc, swap_mul}
use lib.Dec.{ltb}

pub data Expr : Type 0 where
  var : ℕ → Expr
  con : ℤ → Expr
  add : Expr → Expr → Expr
  sub : Expr → Expr → Expr
  mul : Expr → Expr → Expr

abbrev pub at : List ℤ → ℕ → ℤ
at [] n = pos 0
at (x ∷ xs) zero = x
at (x ∷ xs) (suc n) = at xs n

abbrev pub value : List ℤ → Expr → ℤ
value env (var n) = at env n
value env (con c) = c
value env (add a b) = value env a +ℤ value env b
value env (sub a b) = value env a -ℤ value env b
value env (mul a b) = value env a *ℤ value env b

pub record Term : Type 0 where
  pub coef : ℤ
  pub vars : List ℕ

abbrev pub mono : List ℤ → List ℕ → ℤ
mono env [] = pos 1
mono env (v ∷ vs) = at env v *ℤ mono env vs

abbrev pub sum_of : List ℤ → List Term → ℤ
sum_of env [] = pos 0
sum_of env (t ∷ ts) = t.coef *ℤ mono env t.vars +ℤ sum_of env ts

abbrev pub ins : ℕ → List ℕ → List ℕ
ins v [] = v ∷ []
ins v (w ∷ ws) = cond (ltb v w) (v ∷ w ∷ ws) (w ∷ ins v ws)

abbrev pub merge : List ℕ → List ℕ → List ℕ
merge [] n = n
merge (v ∷ vs) n = ins v (merge vs n)

abbrev pub eq_nat : ℕ → ℕ → Bool
eq_nat zero zero = true
eq_nat zero (suc n) = false
eq_nat (suc m) zero = false
eq_nat (suc m) (suc n) = eq_nat m n

abbrev pub same : List ℕ → List ℕ → Bool
same [] [] = true
same [] (y ∷ ys) = false
same (x ∷ xs) [] = false
same (x ∷ xs) (y ∷ ys) = cond (eq_nat x y) (same xs ys) false

abbrev pub put : ℤ → List ℕ → List Term → List Term
put c m [] = record { coef = c; vars = m } ∷ []
put c m (t ∷ ts) = cond (same m t.vars) (record { coef = c +ℤ t.coef; vars = t.vars } ∷ ts) (t ∷ put c m ts)

abbrev pub addp : List Term → List Term → List Term
addp [] q = q
addp (t ∷ ts) q = put t.coef t.vars (addp ts q)

abbrev pub times_term : ℤ → List ℕ → List Term → List Term
times_term c m [] = []
times_term c m (t ∷ ts) = put (c *ℤ t.coef) (merge m t.vars) (times_term c m ts)

abbrev pub mulp : List Term → List Term → List Term
mulp [] q = []
mulp (t ∷ ts) q = addp (times_term t.coef t.vars q) (mulp ts q)

abbrev pub norm : Expr → List Term
norm (var n) = record { coef = pos 1; vars = n ∷ [] } ∷ []
norm (con c) = record { coef = c; vars = [] } ∷ []
norm (add a b) = addp (norm a) (norm b)
norm (sub a b) = addp (times_term (negsuc 0) [] (norm b)) (norm a)
norm (mul a b) = mulp (norm a) (norm b)

abbrev pub is_zero : ℤ → Bool
is_zero (pos zero) = true
is_zero (pos (suc n)) = false
is_zero (negsuc n) = false

abbrev pub all_zero : List Term → Bool
all_zero [] = true
all_zero (t ∷ ts) = cond (is_zero t.coef) (all_zero ts) false

add_mul : (a b c : ℤ) → (a +ℤ b) *ℤ c ≡ a *ℤ c +ℤ b *ℤ c
add_mul a b c = *ℤ_comm (a +ℤ b) c ∙ mul-add c a b ∙ omega (arith, ints)

mono-cond : (env : List ℤ) (b : Bool) (x y : List ℕ) (z : ℤ) → mono env x ≡ z → mono env y ≡ z → mono env (cond b x y) ≡ z
mono-cond env true x y z p q = p
mono-cond env false x y z p q = q

mono-ins : (env : List ℤ) (v : ℕ) (ws : List ℕ) → mono env (ins v ws) ≡ at env v *ℤ mono env ws
mono-ins env v [] = refl
mono-ins env v (w ∷ ws) = mono-cond env (ltb v w) (v ∷ w ∷ ws) (w ∷ ins v ws) (at env v *ℤ (at env w *ℤ mono env ws)) refl
    (ap (λ (x : ℤ). at env w *ℤ x) (mono-ins env v ws) ∙ swap_mul (at env w) (at env v) (mono env ws))

mono-merge : (env : List ℤ) (m n : List ℕ) → mono env (merge m n) ≡ mono env m *ℤ mono env n
mono-merge env [] n = omega (arith, ints)
mono-merge env (v ∷ vs) n = mono-ins env v (merge vs n) ∙ ap (λ (x : ℤ). at env v *ℤ x) (mono-merge env vs n)
    ∙ sym (mul_assoc (at env v) (mono env vs) (mono env n))

eq_nat-is : (m n : ℕ) → eq_nat m n ≡ true → m ≡ n
eq_nat-is zero zero e = refl
eq_nat-is zero (suc n) e = cc
eq_nat-is (suc m) zero e = cc
eq_nat-is (suc m) (suc n) e = ap suc (eq_nat-is m n e)

and_both : (a b : Bool) → cond a b false ≡ true → (a ≡ true) × (b ≡ true)
and_both true b e = (refl, e)
and_both false b e = cc

same-is : (m n : List ℕ) → same m n ≡ true → m ≡ n
same-is [] [] e = refl
same-is [] (y ∷ ys) e = cc
same-is (x ∷ xs) [] e = cc
same-is (x ∷ xs) (y ∷ ys) e =
    let h = and_both (eq_nat x y) (same xs ys) e in
    let p : x ≡ y = eq_nat-is x y h.0 in
    let q : xs ≡ ys = same-is xs ys h.1 in
    cc

put-cond : (env : List ℤ) (c : ℤ) (m : List ℕ) (t : Term) (ts rest : List Term) (b : Bool) → (b ≡ true → m ≡ t.vars)
    → sum_of env rest ≡ c *ℤ mono env m +ℤ sum_of env ts
    → sum_of env (cond b (record { coef = c +ℤ t.coef; vars = t.vars } ∷ ts) (t ∷ rest)) ≡ c *ℤ mono env m +ℤ (t.coef *ℤ mono env t.vars +ℤ sum_of env ts)
put-cond env c m t ts rest true e h =
    let d : mono env m ≡ mono env t.vars = ap (mono env) (e refl) in
    rw d (let k = add_mul c t.coef (mono env t.vars) in omega (arith, ints))
put-cond env c m t ts rest false e h = omega (arith, ints)

put-is : (env : List ℤ) (c : ℤ) (m : List ℕ) (p : List Term) → sum_of env (put c m p) ≡ c *ℤ mono env m +ℤ sum_of env p
put-is env c m [] = refl
put-is env c m (t ∷ ts) = put-cond env c m t ts (put c m ts) (same m t.vars) (same-is m t.vars) (put-is env c m ts)

addp-is : (env : List ℤ) (p q : List Term) → sum_of env (addp p q) ≡ sum_of env p +ℤ sum_of env q
addp-is env [] q = omega (arith, ints)
addp-is env (t ∷ ts) q = let h = addp-is env ts q in let k = put-is env t.coef t.vars (addp ts q) in omega (arith, ints)

-- the two middle ones of four factors change places
pub swap_middle : (c d x y : ℤ) → (c *ℤ d) *ℤ (x *ℤ y) ≡ (c *ℤ x) *ℤ (d *ℤ y)
swap_middle c d x y = mul_assoc c d (x *ℤ y) ∙ ap (λ (z : ℤ). c *ℤ z) (swap_mul d x y) ∙ sym (mul_assoc c x (d *ℤ y))

times_term-is : (env : List ℤ) (c : ℤ) (m : List ℕ) (p : List Term) → sum_of env (times_term c m p) ≡ (c *ℤ mono env m) *ℤ sum_of env p
times_term-is env c m [] = omega (arith, ints)
times_term-is env c m (t ∷ ts) =
    let h = times_term-is env c m ts in
    let k = put-is env (c *ℤ t.coef) (merge m t.vars) (times_term c m ts) in
    let d : (c *ℤ t.coef) *ℤ mono env (merge m t.vars) ≡ (c *ℤ mono env m) *ℤ (t.coef *ℤ mono env t.vars) =
    ap (λ (z : ℤ). (c *ℤ t.coef) *ℤ z) (mono-merge env m t.vars) ∙ swap_middle c t.coef (mono env m) (mono env t.vars) in
    let e = mul-add (c *ℤ mono env m) (t.coef *ℤ mono env t.vars) (sum_of env ts) in
    omega (arith, ints)

mulp-is : (env : List ℤ) (p q : List Term) → sum_of env (mulp p q) ≡ sum_of env p *ℤ sum_of env q
mulp-is env [] q = omega (arith, ints)
mulp-is env (t ∷ ts) q =
    let h = mulp-is env ts q in
    let k = addp-is env (times_term t.coef t.vars q) (mulp ts q) in
    let d = times_term-is env t.coef t.vars q in
    let e = add_mul (t.coef *ℤ mono env t.vars) (sum_of env ts) (sum_of env q) in
    omega (arith, ints)

-- the terms of an expression add up to its value
pub norm-is : (env : List ℤ) (e : Expr) → sum_of env (norm e) ≡ value env e
norm-is env (var n) = omega (arith, ints)
norm-is env (con c) = omega (arith, ints)
norm-is env (add a b) = let h = norm-is env a in let k = norm-is env b in let d = addp-is env (norm a) (norm b) in omega (arith, ints)
norm-is env (sub a b) =
    let h = norm-is env a in let k = norm-is env b in
    let d = addp-is env (times_term (negsuc 0) [] (norm b)) (norm a) in
    let t = times_term-is env (negsuc 0) [] (norm b) in
    omega (arith, ints)
norm-is env (mul a b) =
    let h = norm-is env a in let k = norm-is env b in
    mulp-is env (norm a) (norm b) ∙ ap (λ (z : ℤ). z *ℤ sum_of env (norm b)) h ∙ ap (λ (z : ℤ). value env a *ℤ z) k

is_zero-is : (c : ℤ) → is_zero c ≡ true → c ≡ pos 0
is_zero-is (pos zero) e = refl
is_zero-is (pos (suc n)) e = cc
is_zero-is (negsuc n) e = cc

all_zero-is : (env : List ℤ) (p : List Term) → all_zero p ≡ true → sum_of env p ≡ pos 0
all_zero-is env [] e = refl
all_zero-is env (t ∷ ts) e =
    let h = and_both (is_zero t.coef) (all_zero ts) e in
    let z : t.coef ≡ pos 0 = is_zero-is t.coef h.0 in
    let r = all_zero-is env ts h.1 in
    let m : t.coef *ℤ mono env t.vars ≡ pos 0 *ℤ mono env t.vars = ap (λ (x : ℤ). x *ℤ mono env t.vars) z in
    omega (arith, ints)

-- two expressions have the same value if all terms of their difference cancel out
pub ring : (env : List ℤ) (a b : Expr) → all_zero (norm (sub a b)) ≡ true → value env a ≡ value env b
ring env a b e =
    let h = norm-is env (sub a b) in
    let z = all_zero-is env (norm (sub a b)) e in
    let d : value env a -ℤ value env b ≡ pos 0 = sym h ∙ z in
    omega (arith, ints)
