-- Sums and products of rows of whole numbers.
use Rattle.std.proofs.Common.{◌≡◌, ◌≢◌, ℕ, zero, suc, ◌<◌, ℤ, pos, ◌+ℤ◌, ◌-ℤ◌, ◌*ℤ◌, refl, sym, ap, ◌∙◌, arith, inl, inr}
use Rattle.std.proofs.lemmas.Bool.{cases_eq}
use Rattle.std.proofs.Math.IntN.{*ℤ_comm, *ℤ-zero}
use Rattle.wide_num.proofs.Ints.{lin, mul-add, mul-sub, swap_mul, mul_assoc}
use Rattle.wide_num.specs.Sums.{total, dot}

-- two rows that agree in their first n numbers have the same sum of these
pub total-same : (n : ℕ) (f g : ℕ → ℤ) → ((i : ℕ) → i < n → f i ≡ g i) → total n f ≡ total n g
total-same zero f g h = refl
total-same (suc n) f g h = omega (arith, lin, h n (omega arith), total-same n f g (λ i l. h i (omega arith)))

-- the sum of s times a row less t times another is s times the sum of the one less t times that of the other
pub total-lin : (n : ℕ) (s t : ℤ) (f g : ℕ → ℤ) → total n (λ (i : ℕ). s *ℤ f i -ℤ t *ℤ g i) ≡ s *ℤ total n f -ℤ t *ℤ total n g
total-lin zero s t f g = omega (arith, lin, *ℤ-zero s, *ℤ-zero t)
total-lin (suc n) s t f g = omega (arith, lin, total-lin n s t f g, mul-add s (total n f) (f n), mul-add t (total n g) (g n))

-- the sum of two rows added place by place is the first sum plus the second
pub total-add : (n : ℕ) (f g : ℕ → ℤ) → total n (λ (i : ℕ). f i +ℤ g i) ≡ total n f +ℤ total n g
total-add zero f g = refl
total-add (suc n) f g = omega (arith, lin, total-add n f g)

-- the sum of a row times s is s times the sum of the row
pub total-scale : (n : ℕ) (s : ℤ) (f : ℕ → ℤ) → total n (λ (i : ℕ). s *ℤ f i) ≡ s *ℤ total n f
total-scale zero s f = sym (*ℤ-zero s)
total-scale (suc n) s f = omega (arith, lin, total-scale n s f, mul-add s (total n f) (f n))

-- a row of zeros has the sum 0
pub total-zero : (n : ℕ) (f : ℕ → ℤ) → ((i : ℕ) → i < n → f i ≡ pos 0) → total n f ≡ pos 0
total-zero zero f h = refl
total-zero (suc n) f h = omega (arith, lin, h n (omega arith), total-zero n f (λ i l. h i (omega arith)))

-- the numbers of a matrix have the same sum by rows and by columns
pub total-swap : (n m : ℕ) (f : ℕ → ℕ → ℤ) → total n (λ (i : ℕ). total m (λ (j : ℕ). f i j)) ≡ total m (λ (j : ℕ). total n (λ (i : ℕ). f i j))
total-swap zero m f = sym (total-zero m (λ (j : ℕ). pos 0) (λ j l. refl))
total-swap (suc n) m f = omega (arith, lin, total-swap n m f, total-add m (λ (j : ℕ). total n (λ (i : ℕ). f i j)) (λ (j : ℕ). f n j))

-- all terms but one are 0
pub total-one : (n k : ℕ) (f : ℕ → ℤ) → k < n → ((i : ℕ) → i < n → i ≢ k → f i ≡ pos 0) → total n f ≡ f k
total-one zero k f l h = absurd (omega arith)
total-one (suc n) k f l h =
    elim (cases_eq k n) [
      | inl e ↦ omega (arith, lin, ap f e, total-zero n f (λ i b. h i (omega arith) (omega arith)))
      | inr ne ↦ omega (arith, lin, h n (omega arith) (omega arith), total-one n k f (omega arith) (λ i b d. h i (omega arith) d))
    ]

-- the first term apart from the others
pub total-first : (n : ℕ) (f : ℕ → ℤ) → total (suc n) f ≡ f zero +ℤ total n (λ (i : ℕ). f (suc i))
total-first zero f = omega (arith, lin)
total-first (suc n) f = omega (arith, lin, total-first n f)

-- the product of a row with s times v less t times w is s times its product with v less t times that with w
pub dot-lin : (n : ℕ) (s t : ℤ) (a v w : ℕ → ℤ) → dot n a (λ (i : ℕ). s *ℤ v i -ℤ t *ℤ w i) ≡ s *ℤ dot n a v -ℤ t *ℤ dot n a w
dot-lin n s t a v w =
    total-same n (λ (i : ℕ). a i *ℤ (s *ℤ v i -ℤ t *ℤ w i)) (λ (i : ℕ). s *ℤ (a i *ℤ v i) -ℤ t *ℤ (a i *ℤ w i))
    (λ i l. omega (arith, lin, mul-sub (a i) (s *ℤ v i) (t *ℤ w i), swap_mul (a i) s (v i), swap_mul (a i) t (w i)))
    ∙ total-lin n s t (λ (i : ℕ). a i *ℤ v i) (λ (i : ℕ). a i *ℤ w i)

-- the product of a row with s times a second row is s times the product of the two
pub dot-scale : (n : ℕ) (s : ℤ) (a v : ℕ → ℤ) → dot n a (λ (i : ℕ). s *ℤ v i) ≡ s *ℤ dot n a v
dot-scale n s a v =
    total-same n (λ (i : ℕ). a i *ℤ (s *ℤ v i)) (λ (i : ℕ). s *ℤ (a i *ℤ v i)) (λ i l. swap_mul (a i) s (v i))
    ∙ total-scale n s (λ (i : ℕ). a i *ℤ v i)

-- the product of s times a row with a second row is s times the product of the two rows
pub dot-scale_left : (n : ℕ) (s : ℤ) (a v : ℕ → ℤ) → dot n (λ (i : ℕ). s *ℤ a i) v ≡ s *ℤ dot n a v
dot-scale_left n s a v =
    total-same n (λ (i : ℕ). s *ℤ a i *ℤ v i) (λ (i : ℕ). s *ℤ (a i *ℤ v i)) (λ i l. mul_assoc s (a i) (v i))
    ∙ total-scale n s (λ (i : ℕ). a i *ℤ v i)

-- a row has the same product with two rows that agree in their first n numbers
pub dot-same : (n : ℕ) (a v w : ℕ → ℤ) → ((i : ℕ) → i < n → v i ≡ w i) → dot n a v ≡ dot n a w
dot-same n a v w h = total-same n (λ (i : ℕ). a i *ℤ v i) (λ (i : ℕ). a i *ℤ w i) (λ i l. ap (λ (x : ℤ). a i *ℤ x) (h i l))

-- the product of a row with a row of zeros is 0
pub dot-zero : (n : ℕ) (a v : ℕ → ℤ) → ((i : ℕ) → i < n → v i ≡ pos 0) → dot n a v ≡ pos 0
dot-zero n a v h = total-zero n (λ (i : ℕ). a i *ℤ v i) (λ i l. ap (λ (x : ℤ). a i *ℤ x) (h i l) ∙ *ℤ-zero (a i))

-- the product of two rows is the same in either order
pub dot_comm : (n : ℕ) (a v : ℕ → ℤ) → dot n a v ≡ dot n v a
dot_comm n a v = total-same n (λ (i : ℕ). a i *ℤ v i) (λ (i : ℕ). v i *ℤ a i) (λ i l. *ℤ_comm (a i) (v i))

-- a row times the product of a matrix and a row
pub dot-through : (n m : ℕ) (f : ℕ → ℤ) (a : ℕ → ℕ → ℤ) (z : ℕ → ℤ) → dot m f (λ (j : ℕ). dot n (a j) z) ≡ dot n (λ (i : ℕ). dot m f (λ (j : ℕ). a j i)) z
dot-through n m f a z =
    total-same m (λ (j : ℕ). f j *ℤ dot n (a j) z) (λ (j : ℕ). total n (λ (i : ℕ). f j *ℤ (a j i *ℤ z i)))
    (λ j l. sym (total-scale n (f j) (λ (i : ℕ). a j i *ℤ z i)))
    ∙ total-swap m n (λ (j i : ℕ). f j *ℤ (a j i *ℤ z i))
    ∙ total-same n (λ (i : ℕ). total m (λ (j : ℕ). f j *ℤ (a j i *ℤ z i))) (λ (i : ℕ). dot m f (λ (j : ℕ). a j i) *ℤ z i)
    (λ i l.
    total-same m (λ (j : ℕ). f j *ℤ (a j i *ℤ z i)) (λ (j : ℕ). z i *ℤ (f j *ℤ a j i))
    (λ j b. ap (λ (x : ℤ). f j *ℤ x) (*ℤ_comm (a j i) (z i)) ∙ swap_mul (f j) (z i) (a j i))
    ∙ total-scale m (z i) (λ (j : ℕ). f j *ℤ a j i)
    ∙ *ℤ_comm (z i) (dot m f (λ (j : ℕ). a j i)))
