-- Multipliers show that a point is of least sum, and the nearest of these.
use Rattle.std.proofs.Common.{◌≡◌, ◌≢◌, ℕ, zero, suc, ◌<◌, arith, refl, sym, ap, ◌∙◌, ◌⊎◌, inl, inr, [], ◌∷◌}
use Rattle.std.specs.Prelude.{ℤ, pos, ◌+ℤ◌, ◌*ℤ◌, ◌-ℤ◌, ◌≤ℤ◌, ◌<ℤ◌}
use Rattle.std.proofs.lemmas.Bool.{cases_eq}
use Rattle.std.proofs.lemmas.Int.{ints}
use Rattle.wide_num.specs.Sums.{total, dot}
use Rattle.wide_num.proofs.Ints.{mul_assoc, mul-zero_cases}
use Rattle.wide_num.proofs.Sums.{total-same, total-add, total-scale}
use Rattle.projection_laws.specs.Points.{MeetsRows, SameNumbers, HasLeastSum, IsNearestTo, square_distance_to}
use Rattle.projection_laws.specs.Multipliers.{AreFirst, AreSecond, AreShares, SumsTo, SumsToOrStands, sum_at}
use Rattle.projection_laws.proofs.Order.{mul_nonneg, mul_positive, square_nonneg, square_positive, cancel_nonneg, zero_or}
use Rattle.projection_laws.proofs.Ring.{var, con, add, sub, mul, ring}
use Rattle.projection_laws.proofs.Sums.{total-sub, total-nonneg, term-le, dual}

-- two points over one denominator: d * x - e * n
abbrev pub gap_of : ℤ → (ℕ → ℤ) → ℤ → (ℕ → ℤ) → ℕ → ℤ
gap_of d n e x j = d *ℤ x j -ℤ e *ℤ n j

-- what a row has of the gap of two points is the gap of what it has of each
pub dot-gap : (m : ℕ) (a : ℕ → ℤ) (d : ℤ) (n : ℕ → ℤ) (e : ℤ) (x : ℕ → ℤ) → dot m a (gap_of d n e x) ≡ d *ℤ dot m a x -ℤ e *ℤ dot m a n
dot-gap m a d n e x =
    total-same m (λ j. a j *ℤ gap_of d n e x j) (λ j. d *ℤ (a j *ℤ x j) -ℤ e *ℤ (a j *ℤ n j))
    (λ j lt. ring (a j ∷ d ∷ x j ∷ e ∷ n j ∷ []) (mul (var 0) (sub (mul (var 1) (var 2)) (mul (var 3) (var 4))))
    (sub (mul (var 1) (mul (var 0) (var 2))) (mul (var 3) (mul (var 0) (var 4)))) refl)
    ∙ total-sub m (λ j. d *ℤ (a j *ℤ x j)) (λ j. e *ℤ (a j *ℤ n j))
    ∙ (let p = total-scale m d (λ j. a j *ℤ x j) in let q = total-scale m e (λ j. a j *ℤ n j) in omega (arith, ints))

-- the gap of two points sums to the gap of their sums
pub total-gap : (m : ℕ) (d : ℤ) (n : ℕ → ℤ) (e : ℤ) (x : ℕ → ℤ) → total m (gap_of d n e x) ≡ d *ℤ total m x -ℤ e *ℤ total m n
total-gap m d n e x =
    total-sub m (λ j. d *ℤ x j) (λ j. e *ℤ n j)
    ∙ (let p = total-scale m d x in let q = total-scale m e n in omega (arith, ints))

-- at a tight row no other point that meets it has less
pub dot-tight : (m : ℕ) (a : ℕ → ℤ) (b d : ℤ) (n : ℕ → ℤ) (e : ℤ) (x : ℕ → ℤ) → pos 0 <ℤ d → dot m a n ≡ d *ℤ b → (e *ℤ b) ≤ℤ dot m a x
    → pos 0 ≤ℤ dot m a (gap_of d n e x)
dot-tight m a b d n e x dp t h =
    let g = dot-gap m a d n e x in
    let k : pos 0 ≤ℤ (d *ℤ (dot m a x -ℤ e *ℤ b)) = mul_nonneg d (dot m a x -ℤ e *ℤ b) (omega (arith, ints)) (omega (arith, ints)) in
    let f : d *ℤ (dot m a x -ℤ e *ℤ b) ≡ d *ℤ dot m a x -ℤ e *ℤ (d *ℤ b) = ring (d ∷ dot m a x ∷ e ∷ b ∷ []) (mul (var 0) (sub (var 1) (mul (var 2) (var 3))))
    (sub (mul (var 0) (var 1)) (mul (var 2) (mul (var 0) (var 3)))) refl in
    let t' : e *ℤ dot m a n ≡ e *ℤ (d *ℤ b) = ap (λ (z : ℤ). e *ℤ z) t in
    omega (arith, ints)

-- a product is 0 if its left factor is
pub zero_times : (s t : ℤ) → s ≡ pos 0 → s *ℤ t ≡ pos 0
zero_times s t z = let q : s *ℤ t ≡ pos 0 *ℤ t = ap (λ (y : ℤ). y *ℤ t) z in omega (arith, ints)

-- a product is 0 if its right factor is
pub times_zero : (s t : ℤ) → t ≡ pos 0 → s *ℤ t ≡ pos 0
times_zero s t z = let q : s *ℤ t ≡ s *ℤ pos 0 = ap (λ (y : ℤ). s *ℤ y) z in omega (arith, ints)

none_negative : (s t : ℤ) → s *ℤ t ≡ pos 0 → pos 0 ≤ℤ (s *ℤ t)
none_negative s t e = omega (arith, ints)

first_term : (m r : ℕ) (a : ℕ → ℕ → ℤ) (bound : ℕ → ℤ) (d : ℤ) (n first : ℕ → ℤ) (e : ℤ) (x : ℕ → ℤ) → AreFirst m r a bound d n first
    → MeetsRows m r a bound e x
    → (i : ℕ) → i < r → pos 0 ≤ℤ (first i *ℤ dot m (a i) (gap_of d n e x))
first_term m r a bound d n first e x h k i lt =
    elim (zero_or (first i)) [
      | inl z ↦ none_negative (first i) (dot m (a i) (gap_of d n e x)) (zero_times (first i) (dot m (a i) (gap_of d n e x)) z)
      | inr z ↦ mul_nonneg (first i) (dot m (a i) (gap_of d n e x)) (h.not_negative i lt)
          (dot-tight m (a i) (bound i) d n e x h.positive (h.tight i lt z) (k.above i lt))
    ]

-- the sum of the rows' gaps, each times its first number, is d times the gap of the sums
first_sum : (m r : ℕ) (a : ℕ → ℕ → ℤ) (d : ℤ) (n first : ℕ → ℤ) (e : ℤ) (x : ℕ → ℤ) → SumsToOrStands m r a d n first e x
    → d *ℤ total m (gap_of d n e x) ≡ total r (λ i. first i *ℤ dot m (a i) (gap_of d n e x))
first_sum m r a d n first e x h =
    sym (total-scale m d (gap_of d n e x))
    ∙ total-same m (λ j. d *ℤ gap_of d n e x j) (λ j. sum_at r a first j *ℤ gap_of d n e x j)
    (λ j lt. column (sum_at r a first j) (d *ℤ x j) (e *ℤ n j) (h j lt))
    ∙ dual m r a first (gap_of d n e x)
  where
    column : (c p q : ℤ) → (c ≡ d) ⊎ (p ≡ q) → d *ℤ (p -ℤ q) ≡ c *ℤ (p -ℤ q)
    column c p q (inl s) = ap (λ (z : ℤ). z *ℤ (p -ℤ q)) (sym s)
    column c p q (inr s) = let z : p -ℤ q ≡ pos 0 = omega (arith, ints) in times_zero d (p -ℤ q) z ∙ sym (times_zero c (p -ℤ q) z)

-- the point with its first multipliers, and another that meets the rows and is the same if the sums aren't d
pub record Compared (m r : ℕ) (a : ℕ → ℕ → ℤ) (bound : ℕ → ℤ) (d : ℤ) (n first : ℕ → ℤ) (e : ℤ) (x : ℕ → ℤ) : Type 0 where
  pub firsts : AreFirst m r a bound d n first
  pub sums : SumsToOrStands m r a d n first e x
  pub meets : MeetsRows m r a bound e x

-- a point with first multipliers has at most the sum of another that it is compared with
pub least_sum : (m r : ℕ) (a : ℕ → ℕ → ℤ) (bound : ℕ → ℤ) (d : ℤ) (n first : ℕ → ℤ) (e : ℤ) (x : ℕ → ℤ) → Compared m r a bound d n first e x
    → (e *ℤ total m n) ≤ℤ (d *ℤ total m x)
least_sum m r a bound d n first e x h =
    let y : ℕ → ℤ = gap_of d n e x in
    let s : pos 0 ≤ℤ total r (λ i. first i *ℤ dot m (a i) y) = total-nonneg r (λ i. first i *ℤ dot m (a i) y)
    (first_term m r a bound d n first e x h.firsts h.meets) in
    let q : d *ℤ total m y ≡ total r (λ i. first i *ℤ dot m (a i) y) = first_sum m r a d n first e x h.sums in
    let dp = h.firsts.positive in
    let c : pos 0 ≤ℤ total m y = cancel_nonneg d (total m y) dp (omega (arith, ints)) in
    let g = total-gap m d n e x in
    omega (arith, ints)

-- d² k (x - e v)² = e² k (n - d v)² + k y² + 2 e y k (n - d v) with y = d x - e n
square_step : (k d e x n v : ℤ) → d *ℤ d *ℤ (k *ℤ ((x -ℤ e *ℤ v) *ℤ (x -ℤ e *ℤ v)))
    ≡ e *ℤ e *ℤ (k *ℤ ((n -ℤ d *ℤ v) *ℤ (n -ℤ d *ℤ v))) +ℤ (k *ℤ ((d *ℤ x -ℤ e *ℤ n) *ℤ (d *ℤ x -ℤ e *ℤ n)) +ℤ pos 2 *ℤ e *ℤ
    ((k *ℤ (n -ℤ d *ℤ v)) *ℤ (d *ℤ x -ℤ e *ℤ n)))
square_step k d e x n v =
    let K = var 0 in let D = var 1 in let E = var 2 in let X = var 3 in let N = var 4 in let V = var 5 in
    let p = sub X (mul E V) in let q = sub N (mul D V) in let y = sub (mul D X) (mul E N) in
    ring (k ∷ d ∷ e ∷ x ∷ n ∷ v ∷ []) (mul (mul D D) (mul K (mul p p)))
    (add (mul (mul E E) (mul K (mul q q))) (add (mul K (mul y y)) (mul (mul (con (pos 2)) E) (mul (mul K q) y)))) refl

equal_or : (p q : ℤ) → (p ≡ q) ⊎ (p ≢ q)
equal_or p q = elim (zero_or (p -ℤ q)) [ inl z ↦ inl (omega (arith, ints)) | inr z ↦ inr (λ e. z (omega (arith, ints))) ]

-- two points are the same, or they aren't at some coordinate
same_or : (m : ℕ) (d : ℤ) (n : ℕ → ℤ) (e : ℤ) (x : ℕ → ℤ) → SameNumbers m d n e x ⊎ ((j : ℕ) × (j < m) × (d *ℤ x j ≢ e *ℤ n j))
same_or zero d n e x = inl (λ j lt. absurd (omega arith))
same_or (suc m) d n e x = both (same_or m d n e x) (equal_or (d *ℤ x m) (e *ℤ n m))
  where
    both : SameNumbers m d n e x ⊎ ((j : ℕ) × (j < m) × (d *ℤ x j ≢ e *ℤ n j)) → (d *ℤ x m ≡ e *ℤ n m) ⊎ (d *ℤ x m ≢ e *ℤ n m)
        → SameNumbers (suc m) d n e x ⊎ ((j : ℕ) × (j < suc m) × (d *ℤ x j ≢ e *ℤ n j))
    both (inr (j, lt, ne)) q = inr (j, omega arith, ne)
    both (inl s) (inr ne) = inr (m, omega arith, ne)
    both (inl s) (inl last) = inl (λ j lt. at j lt (cases_eq j m))
      where
        at : (j : ℕ) → j < suc m → (j ≡ m) ⊎ (j ≢ m) → d *ℤ x j ≡ e *ℤ n j
        at j lt (inl same) = ap (λ (k : ℕ). d *ℤ x k) same ∙ last ∙ sym (ap (λ (k : ℕ). e *ℤ n k) same)
        at j lt (inr ne) = s j (omega arith)

-- first multipliers show the least sum of all that meet the rows and stay if they don't come to d
pub least : (m r : ℕ) (a : ℕ → ℕ → ℤ) (bound : ℕ → ℤ) (d : ℤ) (n first : ℕ → ℤ) → AreFirst m r a bound d n first
    → HasLeastSum m (λ e x. MeetsRows m r a bound e x × SumsToOrStands m r a d n first e x) d n
least m r a bound d n first f e x among = least_sum m r a bound d n first e x (record { firsts = f; sums = among.1; meets = among.0 })

-- a point with its multipliers
module _ (m r : ℕ) (a : ℕ → ℕ → ℤ) (bound : ℕ → ℤ) (d : ℤ) (n first second target weight : ℕ → ℤ) where
  second_term : (e : ℤ) (x : ℕ → ℤ)
      → Compared m r a bound d n first e x → AreSecond m r a bound d n first second target weight → total m (gap_of d n e x) ≡ pos 0
      → (i : ℕ) → i < r → pos 0 ≤ℤ (second i *ℤ dot m (a i) (gap_of d n e x))
  second_term e x h s z i lt =
      let y : ℕ → ℤ = gap_of d n e x in
      let terms = first_term m r a bound d n first e x h.firsts h.meets in
      let all : d *ℤ total m y ≡ total r (λ i. first i *ℤ dot m (a i) y) = first_sum m r a d n first e x h.sums in
      let dz : d *ℤ total m y ≡ pos 0 = times_zero d (total m y) z in
      let small : (first i *ℤ dot m (a i) y) ≤ℤ total r (λ i. first i *ℤ dot m (a i) y) = term-le r (λ i. first i *ℤ dot m (a i) y) terms i lt in
      let big : pos 0 ≤ℤ (first i *ℤ dot m (a i) y) = terms i lt in
      let none : first i *ℤ dot m (a i) y ≡ pos 0 = omega (arith, ints) in
      elim (zero_or (first i)) [
        | inl f ↦ elim (zero_or (second i)) [
          | inl g ↦ none_negative (second i) (dot m (a i) y) (zero_times (second i) (dot m (a i) y) g)
          | inr g ↦ mul_nonneg (second i) (dot m (a i) y) (s.sign i lt f)
              (dot-tight m (a i) (bound i) d n e x h.firsts.positive (s.tight i lt g) (h.meets.above i lt))
        ]
        | inr f ↦ none_negative (second i) (dot m (a i) y) (times_zero (second i) (dot m (a i) y) (mul-zero_cases (first i) (dot m (a i) y) none f))
      ]

  -- a point of the same sum that isn't the same at coordinate j is farther from the target
  pub farther : (l : ℤ) (share : ℕ → ℤ) (e : ℤ) (x : ℕ → ℤ)
      → Compared m r a bound d n first e x → AreSecond m r a bound d n first second target weight → AreShares m l share weight
      → d *ℤ total m x ≡ e *ℤ total m n → (j : ℕ) → j < m → d *ℤ x j ≢ e *ℤ n j
      → (e *ℤ e *ℤ square_distance_to m share target d n) <ℤ (d *ℤ d *ℤ square_distance_to m share target e x)
  farther l share e x h s w same j lt other =
      let y : ℕ → ℤ = gap_of d n e x in
      let q : ℕ → ℤ = λ j. share j *ℤ (y j *ℤ y j) in
      let near : ℕ → ℤ = λ j. share j *ℤ ((n j -ℤ d *ℤ target j) *ℤ (n j -ℤ d *ℤ target j)) in
      let col : ℕ → ℤ = sum_at r a second in
      let zero_sum : total m y ≡ pos 0 = total-gap m d n e x ∙ omega (arith, ints) in
      let rows : pos 0 ≤ℤ total r (λ i. second i *ℤ dot m (a i) y) = total-nonneg r (λ i. second i *ℤ dot m (a i) y) (second_term e x h s zero_sum) in
      let by_rows : total m (λ j. col j *ℤ y j) ≡ total r (λ i. second i *ℤ dot m (a i) y) = dual m r a second y in
      let cross : (j : ℕ) → j < m → share j *ℤ (n j -ℤ d *ℤ target j) ≡ l *ℤ col j =
      λ j lj. ap (λ (z : ℤ). share j *ℤ z) (sym (s.sums j lj)) ∙ sym (mul_assoc (share j) (weight j) (col j)) ∙ ap (λ (z : ℤ). z *ℤ col j) (w.whole j lj) in
      let left : d *ℤ d *ℤ square_distance_to m share target e x ≡ e *ℤ e *ℤ total m near +ℤ (total m q +ℤ pos 2 *ℤ e *ℤ (l *ℤ total m (λ j. col j *ℤ y j))) =
      sym (total-scale m (d *ℤ d) (λ j. share j *ℤ ((x j -ℤ e *ℤ target j) *ℤ (x j -ℤ e *ℤ target j))))
      ∙ total-same m (λ j. d *ℤ d *ℤ (share j *ℤ ((x j -ℤ e *ℤ target j) *ℤ (x j -ℤ e *ℤ target j))))
      (λ j. e *ℤ e *ℤ near j +ℤ (q j +ℤ pos 2 *ℤ e *ℤ (l *ℤ (col j *ℤ y j))))
      (λ j lj. square_step (share j) d e (x j) (n j) (target j)
      ∙ ap (λ (z : ℤ). e *ℤ e *ℤ near j +ℤ (q j +ℤ pos 2 *ℤ e *ℤ z)) (ap (λ (z : ℤ). z *ℤ y j) (cross j lj) ∙ mul_assoc l (col j) (y j)))
      ∙ total-add m (λ j. e *ℤ e *ℤ near j) (λ j. q j +ℤ pos 2 *ℤ e *ℤ (l *ℤ (col j *ℤ y j)))
      ∙ (let p₁ = total-scale m (e *ℤ e) near in
      let p₂ = total-add m q (λ j. pos 2 *ℤ e *ℤ (l *ℤ (col j *ℤ y j))) in
      let p₃ = total-scale m (pos 2 *ℤ e) (λ j. l *ℤ (col j *ℤ y j)) in
      let p₄ : pos 2 *ℤ e *ℤ total m (λ j. l *ℤ (col j *ℤ y j)) ≡ pos 2 *ℤ e *ℤ (l *ℤ total m (λ j. col j *ℤ y j)) =
      ap (λ (z : ℤ). pos 2 *ℤ e *ℤ z) (total-scale m l (λ j. col j *ℤ y j)) in
      omega (arith, ints)) in
      let squares : (j : ℕ) → j < m → pos 0 ≤ℤ q j =
      λ j lj. mul_nonneg (share j) (y j *ℤ y j) (let b = w.positive j lj in omega (arith, ints)) (square_nonneg (y j)) in
      let apart : y j ≢ pos 0 = λ z. other (omega (arith, ints)) in
      let more : pos 0 <ℤ q j = mul_positive (share j) (y j *ℤ y j) (w.positive j lt) (square_positive (y j) apart) in
      let one : q j ≤ℤ total m q = term-le m q squares j lt in
      let twice : pos 0 ≤ℤ (pos 2 *ℤ e *ℤ (l *ℤ total m (λ j. col j *ℤ y j))) =
      mul_nonneg (pos 2 *ℤ e) (l *ℤ total m (λ j. col j *ℤ y j)) (mul_nonneg (pos 2) e (omega (arith, ints)) (let b = h.meets.positive in omega (arith, ints)))
      (mul_nonneg l (total m (λ j. col j *ℤ y j)) w.not_negative (omega (arith, ints))) in
      omega (arith, ints)

  -- with second multipliers and shares too, every other such point of the same sum is farther from the target
  pub nearest : (l : ℤ) (share : ℕ → ℤ)
      → AreFirst m r a bound d n first → AreSecond m r a bound d n first second target weight → AreShares m l share weight
      → IsNearestTo m share target (λ e x. MeetsRows m r a bound e x × SumsToOrStands m r a d n first e x) d n
  nearest l share f s w e x among same other =
      elim (same_or m d n e x) [
        | inl all ↦ absurd (other all)
        | inr (j, lt, ne) ↦ farther l share e x (record { firsts = f; sums = among.1; meets = among.0 }) s w same j lt ne
      ]

-- if the first multipliers come to d at each coordinate, any point that meets the rows will do
pub at_each : (m r : ℕ) (a : ℕ → ℕ → ℤ) (d : ℤ) (n first : ℕ → ℤ) (e : ℤ) (x : ℕ → ℤ) → SumsTo m r a d first → SumsToOrStands m r a d n first e x
at_each m r a d n first e x h j lt = inl (h j lt)
