-- Few equations in many unknowns have a small solution that isn't zero.
use Rattle.std.proofs.Common.{List, [], ap, arith, inl, inr, negsuc, pos, refl, subst, suc, sym, unsigned_abs, zero, ℕ, ℤ, ◌%◌, ◌*ℤ◌, ◌*◌, ◌+ℤ◌, ◌+◌}
use Rattle.std.proofs.Common.{◌-ℤ◌, ◌-◌, ◌/◌, ◌<◌, ◌∙◌, ◌∷◌, ◌≡◌, ◌≢◌, ◌≤◌, ◌⊎◌}
use Rattle.std.proofs.lemmas.Int.{ints, unsigned_abs-mul}
use Rattle.std.proofs.lemmas.Bool.{cases_eq}
use Rattle.std.proofs.Math.Nat.{div-add-mod, mod-lt, mul-le-mul, div-lt_iff_lt-mul}
use Rattle.wide_num.proofs.Ints.{lin}
use Rattle.wide_num.proofs.Sums.{dot-lin, total-add, total-same}
use Rattle.wide_num.specs.Sums.{dot, total}
use Rattle.lin_solve.specs.Bounds.{nat_total}
use Rattle.lin_solve.proofs.Pigeon.{collide, Collision}

-- z is a solution of each of the rows
abbrev pub Solves : ℕ → (ℕ → ℤ) → List (ℕ → ℤ) → Type 0
Solves n z [] = Unit {0}
Solves n z (a ∷ rows) = (dot n a z ≡ pos 0) × Solves n z rows

abbrev SameOn : ℕ → (ℕ → ℤ) → (ℕ → ℤ) → List (ℕ → ℤ) → Type 0
SameOn n z y [] = Unit {0}
SameOn n z y (a ∷ rows) = (dot n a z ≡ dot n a y) × SameOn n z y rows

-- if each number of f is at most that of g, the sum of f is at most that of g
pub nat_total-le : (n : ℕ) (f g : ℕ → ℕ) → ((i : ℕ) → i < n → f i ≤ g i) → nat_total n f ≤ nat_total n g
nat_total-le zero f g h = omega arith
nat_total-le (suc n) f g h = omega (arith, h zero (omega arith), nat_total-le n (λ (i : ℕ). f (suc i)) (λ (i : ℕ). g (suc i)) (λ i l. h (suc i) (omega arith)))

-- the sum of n + 1 numbers is the sum of the first n and the last one
pub nat_total-last : (n : ℕ) (f : ℕ → ℕ) → nat_total (suc n) f ≡ nat_total n f + f n
nat_total-last zero f = omega arith
nat_total-last (suc n) f = omega (arith, nat_total-last n (λ (i : ℕ). f (suc i)))

-- the sum of the first i numbers is at most the sum of the first n, for i up to n
pub nat_total-more : (i n : ℕ) (f : ℕ → ℕ) → i ≤ n → nat_total i f ≤ nat_total n f
nat_total-more zero n f h = omega arith
nat_total-more (suc i) zero f h = absurd (omega arith)
nat_total-more (suc i) (suc n) f h = omega (arith, nat_total-more i n (λ (k : ℕ). f (suc k)) (omega arith))

abs_add : (x y : ℤ) → unsigned_abs (x +ℤ y) ≤ unsigned_abs x + unsigned_abs y
abs_add x y = omega (arith, ints)

-- the size of a sum is at most the sum of the sizes
pub abs_total : (n : ℕ) (f : ℕ → ℤ) → unsigned_abs (total n f) ≤ nat_total n (λ (i : ℕ). unsigned_abs (f i))
abs_total zero f = omega arith
abs_total (suc n) f = omega (arith, abs_add (total n f) (f n), abs_total n f, nat_total-last n (λ (i : ℕ). unsigned_abs (f i)))

nat_total-same : (n : ℕ) (f g : ℕ → ℕ) → ((i : ℕ) → f i ≡ g i) → nat_total n f ≡ nat_total n g
nat_total-same zero f g h = refl
nat_total-same (suc n) f g h = omega (arith, h zero, nat_total-same n (λ (i : ℕ). f (suc i)) (λ (i : ℕ). g (suc i)) (λ i. h (suc i)))

-- the size of a sum of products is at most the sum of the products of the sizes
pub abs_dot : (n : ℕ) (a v : ℕ → ℤ) → unsigned_abs (dot n a v) ≤ nat_total n (λ (i : ℕ). unsigned_abs (a i) * unsigned_abs (v i))
abs_dot n a v = omega (
  arith,
  abs_total n (λ (i : ℕ). a i *ℤ v i),
  nat_total-same n (λ (i : ℕ). unsigned_abs (a i *ℤ v i))
      (λ (i : ℕ). unsigned_abs (a i) * unsigned_abs (v i)) (λ i. unsigned_abs-mul (a i) (v i)),
)

-- one more product stays within the whole sum
pub dot_room : (i n : ℕ) (a v : ℕ → ℤ) → i < n → unsigned_abs (dot i a v) + unsigned_abs (a i) * unsigned_abs (v i) ≤ nat_total n
    (λ (k : ℕ). unsigned_abs (a k) * unsigned_abs (v k))
dot_room i n a v l =
    omega (
      arith,
      abs_dot i a v,
      nat_total-last i (λ (k : ℕ). unsigned_abs (a k) * unsigned_abs (v k)),
      nat_total-more (suc i) n (λ (k : ℕ). unsigned_abs (a k) * unsigned_abs (v k)) l,
    )

-- what a row of numbers gives at most on a box
abbrev pub weight : ℕ → (ℕ → ℤ) → (ℕ → ℕ) → ℕ
weight n a u = nat_total n (λ (i : ℕ). unsigned_abs (a i) * u i)

-- a z, moved so that it isn't negative, for z up to u
abbrev part : ℤ → ℕ → ℕ → ℕ
part (pos c) u z = c * z
part (negsuc c) u z = suc c * (u - z)

abbrev offset : ℤ → ℕ → ℤ
offset (pos c) u = pos 0
offset (negsuc c) u = pos (suc c * u)

minus_mul : (c u z : ℕ) → z ≤ u → suc c * (u - z) + suc c * z ≡ suc c * u
minus_mul c u z h = sym (mul_plus (suc c) (u - z) z) ∙ ap (λ (n : ℕ). suc c * n) (let e : u - z + z ≡ u = omega arith in e)
  where
    mul_plus : (a b d : ℕ) → a * (b + d) ≡ a * b + a * d
    mul_plus a b d = omega arith

part_is : (a : ℤ) (u z : ℕ) → z ≤ u → pos (part a u z) ≡ a *ℤ pos z +ℤ offset a u
part_is (pos c) u z h = omega (arith, ints)
part_is (negsuc c) u z h = omega (arith, ints, minus_mul c u z h)

part_below : (a : ℤ) (u z : ℕ) → z ≤ u → part a u z ≤ unsigned_abs a * u
part_below (pos c) u z h = mul_le_right c z u h
  where
    mul_le_right : (a b d : ℕ) → b ≤ d → a * b ≤ a * d
    mul_le_right a b d h = grind arith
part_below (negsuc c) u z h = omega (arith, minus_mul c u z h)

image : ℕ → (ℕ → ℤ) → (ℕ → ℕ) → (ℕ → ℕ) → ℕ
image n a u z = nat_total n (λ (i : ℕ). part (a i) (u i) (z i))

-- the sum of natural numbers is, as an integer, the sum of these numbers as integers
pub pos-nat_total : (n : ℕ) (f : ℕ → ℕ) → pos (nat_total n f) ≡ total n (λ (i : ℕ). pos (f i))
pos-nat_total zero f = refl
pos-nat_total (suc n) f = ap pos (nat_total-last n f) ∙ ap (λ (x : ℤ). x +ℤ pos (f n)) (pos-nat_total n f)

image_is : (n : ℕ) (a : ℕ → ℤ) (u z : ℕ → ℕ) → ((i : ℕ) → i < n → z i ≤ u i) → pos (image n a u z) ≡ dot n a (λ (i : ℕ). pos (z i)) +ℤ total n
    (λ (i : ℕ). offset (a i) (u i))
unfolding image
image_is n a u z h =
    pos-nat_total n (λ (i : ℕ). part (a i) (u i) (z i))
    ∙ total-same n (λ (i : ℕ). pos (part (a i) (u i) (z i))) (λ (i : ℕ). a i *ℤ pos (z i) +ℤ offset (a i) (u i)) (λ i l. part_is (a i) (u i) (z i) (h i l))
    ∙ total-add n (λ (i : ℕ). a i *ℤ pos (z i)) (λ (i : ℕ). offset (a i) (u i))

image_below : (n : ℕ) (a : ℕ → ℤ) (u z : ℕ → ℕ) → ((i : ℕ) → i < n → z i ≤ u i) → image n a u z ≤ weight n a u
unfolding image
image_below n a u z h = nat_total-le n (λ (i : ℕ). part (a i) (u i) (z i)) (λ (i : ℕ). unsigned_abs (a i) * u i) (λ i l. part_below (a i) (u i) (z i) (h i l))

-- two numbers by one
abbrev pub room : ℕ → (ℕ → ℕ) → List (ℕ → ℤ) → ℕ
room n u [] = 1
room n u (a ∷ rows) = suc (weight n a u) * room n u rows

images : ℕ → (ℕ → ℕ) → List (ℕ → ℤ) → (ℕ → ℕ) → ℕ
images n u [] z = 0
images n u (a ∷ rows) z = image n a u z + suc (weight n a u) * images n u rows z

-- a number x up to w, joined with a q below r, is below w + 1 times r
pub joined_below : (x w q r : ℕ) → x ≤ w → q < r → x + suc w * q < suc w * r
joined_below x w q r h l = step (mul-le-mul (le_refl_of (suc w)) l)
  where
    le_refl_of : (n : ℕ) → n ≤ n
    le_refl_of n = omega arith

    step : suc w * suc q ≤ suc w * r → x + suc w * q < suc w * r
    step k = omega arith

images_below : (n : ℕ) (u : ℕ → ℕ) (rows : List (ℕ → ℤ)) (z : ℕ → ℕ) → ((i : ℕ) → i < n → z i ≤ u i) → images n u rows z < room n u rows
unfolding images
images_below n u [] z h = omega arith
images_below n u (a ∷ rows) z h = joined_below (image n a u z) (weight n a u) (images n u rows z) (room n u rows) (image_below n a u z h)
    (images_below n u rows z h)

-- two pairs that are joined to the same number, each with a first number up to w, are the same pair
pub joined_same : (x w q x' q' : ℕ) → x ≤ w → x' ≤ w → x + suc w * q ≡ x' + suc w * q' → (x ≡ x') × (q ≡ q')
joined_same x w zero x' zero h h' e = (omega arith, refl)
joined_same x w zero x' (suc q') h h' e = absurd (omega arith)
joined_same x w (suc q) x' zero h h' e = absurd (omega arith)
joined_same x w (suc q) x' (suc q') h h' e =
    let r = joined_same x w q x' q' h h' (omega arith) in (r.0, ap suc r.1)

images_same : (n : ℕ) (u : ℕ → ℕ) (rows : List (ℕ → ℤ)) (z y : ℕ → ℕ) → ((i : ℕ) → i < n → z i ≤ u i) → ((i : ℕ) → i < n → y i ≤ u i)
    → images n u rows z ≡ images n u rows y → SameOn n (λ (i : ℕ). pos (z i)) (λ (i : ℕ). pos (y i)) rows
unfolding images
images_same n u [] z y h k e = tt
images_same n u (a ∷ rows) z y h k e =
    let r = joined_same (image n a u z) (weight n a u) (images n u rows z) (image n a u y) (images n u rows y) (image_below n a u z h)
    (image_below n a u y k) e in (
      omega (arith, lin, ap pos r.0, image_is n a u z h, image_is n a u y k),
      images_same n u rows z y h k r.1,
    )

-- ---- numbers rows rows of digits
abbrev pub box : ℕ → (ℕ → ℕ) → ℕ
box zero u = 1
box (suc n) u = suc (u zero) * box n (λ (i : ℕ). u (suc i))

digit : (ℕ → ℕ) → ℕ → ℕ → ℕ
digit u t zero = t % suc (u zero)
digit u t (suc l) = digit (λ (i : ℕ). u (suc i)) (t / suc (u zero)) l

digit_below : (u : ℕ → ℕ) (t l : ℕ) → digit u t l ≤ u l
unfolding digit
digit_below u t zero = let h : t % suc (u zero) < suc (u zero) = mod-lt t (omega arith) in omega arith
digit_below u t (suc l) = digit_below (λ (i : ℕ). u (suc i)) (t / suc (u zero)) l

digits_same : (n : ℕ) (u : ℕ → ℕ) (t s : ℕ) → t < box n u → s < box n u → ((l : ℕ) → l < n → digit u t l ≡ digit u s l) → t ≡ s
unfolding digit
digits_same zero u t s h k e = omega arith
digits_same (suc n) u t s h k e =
    let q : t / suc (u zero) ≡ s / suc (u zero) =
    digits_same n (λ (i : ℕ). u (suc i)) (t / suc (u zero)) (s / suc (u zero)) (under t h) (under s k) (λ l b. e (suc l) (omega arith)) in
    sym (div-add-mod t (suc (u zero)))
    ∙ ap (λ (x : ℕ). suc (u zero) * x + t % suc (u zero)) q
    ∙ ap (λ (x : ℕ). suc (u zero) * (s / suc (u zero)) + x) (e zero (omega arith))
    ∙ div-add-mod s (suc (u zero))
  where
    under : (x : ℕ) → x < suc (u zero) * box n (λ (i : ℕ). u (suc i)) → x / suc (u zero) < box n (λ (i : ℕ). u (suc i))
    under x l = (div-lt_iff_lt-mul {k = suc (u zero)} {x = x} {y = box n (λ (i : ℕ). u (suc i))} (omega arith)).1 (omega arith)

pub record Solution (n : ℕ) (u : ℕ → ℕ) (rows : List (ℕ → ℤ)) : Type 0 where
  pub z : ℕ → ℤ
  pub place : ℕ
  pub below : place < n
  pub apart : z place ≢ pos 0
  pub within : (i : ℕ) → i < n → unsigned_abs (z i) ≤ u i
  pub solves : Solves n z rows

differ : (n : ℕ) (f g : ℕ → ℕ) → ((l : ℕ) × ((l < n) × (f l ≢ g l))) ⊎ ((l : ℕ) → l < n → f l ≡ g l)
differ zero f g = inr (λ l b. absurd (omega arith))
differ (suc n) f g =
    elim (cases_eq (f n) (g n)) [
      | inr ne ↦ inl (n, (omega arith, ne))
      | inl e ↦ elim (differ n f g) [
        | inl w ↦ inl (w.0, (omega (arith, w.1.0), w.1.1))
        | inr all ↦ inr (λ l b. elim (cases_eq l n) [
          | inl q ↦ subst (λ (k : ℕ). f k ≡ g k) (sym q) e
          | inr d ↦ all l (omega arith)
        ])
      ]
    ]

minus_solves : (n : ℕ) (z y : ℕ → ℤ) (rows : List (ℕ → ℤ)) → SameOn n z y rows → Solves n (λ (i : ℕ). pos 1 *ℤ z i -ℤ pos 1 *ℤ y i) rows
minus_solves n z y [] h = tt
minus_solves n z y (a ∷ rows) h = (omega (arith, ints, dot-lin n (pos 1) (pos 1) a z y, h.0), minus_solves n z y rows h.1)

gap : (p q b : ℕ) → p ≤ b → q ≤ b → unsigned_abs (pos 1 *ℤ pos p -ℤ pos 1 *ℤ pos q) ≤ b
gap p q b h k = omega (arith, ints)

-- if the rows have fewer values than the box has points, they have a solution other than 0 up to the sides u
pub siegel : (n : ℕ) (u : ℕ → ℕ) (rows : List (ℕ → ℤ)) → room n u rows < box n u → Solution n u rows
siegel n u rows h =
    let w : Collision (λ (t : ℕ). images n u rows (digit u t)) (box n u) =
    collide (room n u rows) (box n u) (λ (t : ℕ). images n u rows (digit u t)) (λ t l. images_below n u rows (digit u t) (λ i b. digit_below u t i)) h in
    elim (differ n (digit u w.i) (digit u w.j)) [
      | inr all ↦ absurd (let e : w.i ≡ w.j = digits_same n u w.i w.j (omega (arith, w.order, w.below)) w.below all in omega (arith, e, w.order))
      | inl d ↦ record {
        z = λ (i : ℕ). pos 1 *ℤ pos (digit u w.i i) -ℤ pos 1 *ℤ pos (digit u w.j i);
        place = d.0;
        below = d.1.0;
        apart = λ e. d.1.1 (omega (arith, ints, e));
        within = λ i b. gap (digit u w.i i) (digit u w.j i) (u i) (digit_below u w.i i) (digit_below u w.j i);
        solves = minus_solves n (λ (i : ℕ). pos (digit u w.i i)) (λ (i : ℕ). pos (digit u w.j i)) rows
            (images_same n u rows (digit u w.i) (digit u w.j) (λ i b. digit_below u w.i i) (λ i b. digit_below u w.j i) w.same);
      }
    ]
