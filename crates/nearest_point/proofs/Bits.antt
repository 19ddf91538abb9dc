-- Members as bits: a single coordinate, and a row that has a member.
use Rattle.std.proofs.Common.{◌≡◌, ℕ, zero, suc, ◌+◌, ◌*◌, ◌/◌, ◌%◌, ◌^◌, ◌<◌, arith, refl, sym, ap, ◌∙◌, ◌⊎◌, inl, inr}
use Rattle.std.specs.Prelude.{ℤ, pos, ◌*ℤ◌, ◌≤ℤ◌}
use Rattle.std.proofs.lemmas.Int.{ints}
use Rattle.std.proofs.lemmas.Nat.{shr-shr, div-add-mod', mod_below, pow_pos, pow-add, div_below}
use Rattle.wide_num.specs.Sums.{dot}
use Rattle.far_num.specs.Members.{holds}
use Rattle.projection_laws.proofs.Order.{mul_nonneg}
use Rattle.wide_num.proofs.Sums.{total-zero}
use Rattle.projection_laws.proofs.Sums.{term-le}
use Rattle.nearest_point.proofs.Places.{lt_or}

-- no coefficient of a set of members is negative
pub holds_nonneg : (n j : ℕ) → pos 0 ≤ℤ holds n j
holds_nonneg n j = omega (arith, ints)

double : (k : ℕ) → 2 ^ suc k ≡ 2 * 2 ^ k
double k = let e : suc k ≡ 1 + k = omega arith in ap (λ (t : ℕ). 2 ^ t) e ∙ pow-add 2 1 k

-- a set below 2^m with no member below m is empty
pub empty : (m n : ℕ) → n < 2 ^ m → ((j : ℕ) → j < m → n / 2 ^ j % 2 ≡ 0) → n ≡ 0
empty zero n lt h = omega arith
empty (suc m) n lt h =
    let e : 2 ^ suc m ≡ 2 * 2 ^ m = double m in
    let q : n / 2 ^ m < 2 = div_below n (2 ^ m) 2 (pow_pos m) (omega arith) in
    let z : n / 2 ^ m % 2 ≡ 0 = h m (omega arith) in
    let zero_q : n / 2 ^ m ≡ 0 = omega arith in
    let d = div-add-mod' n (2 ^ m) in
    let r = mod_below n (2 ^ m) (pow_pos m) in
    let k : n / 2 ^ m * 2 ^ m ≡ 0 * 2 ^ m = ap (λ (t : ℕ). t * 2 ^ m) zero_q in
    empty m n (omega arith) (λ j lj. h j (omega arith))

odd_or : (k : ℕ) → (k % 2 ≡ 0) ⊎ (k % 2 ≡ 1)
odd_or k = by_value (k % 2) (mod_below k 2 (omega arith))
  where
    by_value : (r : ℕ) → r < 2 → (r ≡ 0) ⊎ (r ≡ 1)
    by_value zero lt = inl refl
    by_value (suc zero) lt = inr refl
    by_value (suc (suc r)) lt = absurd (omega arith)

-- a set below 2^m that isn't empty has a member below m
pub some_member : (m n : ℕ) → 0 < n → n < 2 ^ m → (j : ℕ) × (j < m) × (n / 2 ^ j % 2 ≡ 1)
some_member m n pn lt = go (find m)
  where
    find : (k : ℕ) → ((j : ℕ) → j < k → n / 2 ^ j % 2 ≡ 0) ⊎ ((j : ℕ) × (j < k) × (n / 2 ^ j % 2 ≡ 1))
    find zero = inl (λ j lj. absurd (omega arith))
    find (suc k) = step (find k) (odd_or (n / 2 ^ k))
      where
        step : ((j : ℕ) → j < k → n / 2 ^ j % 2 ≡ 0) ⊎ ((j : ℕ) × (j < k) × (n / 2 ^ j % 2 ≡ 1)) → (n / 2 ^ k % 2 ≡ 0) ⊎ (n / 2 ^ k % 2 ≡ 1)
            → ((j : ℕ) → j < suc k → n / 2 ^ j % 2 ≡ 0) ⊎ ((j : ℕ) × (j < suc k) × (n / 2 ^ j % 2 ≡ 1))
        step (inr (j, lj, e)) h = inr (j, omega arith, e)
        step (inl z) (inr e) = inr (k, omega arith, e)
        step (inl z) (inl e) = inl (λ j lj. elim (lt_or j k lj) [ inl b ↦ z j b | inr d ↦ ap (λ (t : ℕ). n / 2 ^ t % 2) d ∙ e ])

    go : ((j : ℕ) → j < m → n / 2 ^ j % 2 ≡ 0) ⊎ ((j : ℕ) × (j < m) × (n / 2 ^ j % 2 ≡ 1)) → (j : ℕ) × (j < m) × (n / 2 ^ j % 2 ≡ 1)
    go (inr p) = p
    go (inl z) = absurd (let e = empty m n lt z in omega arith)

-- 2^k has the one member k
pub power_bit : (k j : ℕ) → ((k ≡ j) → 2 ^ k / 2 ^ j % 2 ≡ 1) × (¬ (k ≡ j) → 2 ^ k / 2 ^ j % 2 ≡ 0)
power_bit zero zero = ((λ e. refl), (λ h. absurd (h refl)))
power_bit zero (suc j) = ((λ e. absurd (omega arith)), (λ h. let e : 2 ^ suc j ≡ 2 * 2 ^ j = double j in let p = pow_pos j in small (2 ^ suc j) (omega arith)))
  where
    small : (d : ℕ) → 1 < d → 1 / d % 2 ≡ 0
    small d lt = let q : 1 / d < 1 = div_below 1 d 1 (omega arith) (omega arith) in let z : 1 / d ≡ 0 = omega arith in ap (λ (t : ℕ). t % 2) z
power_bit (suc k) zero = ((λ e. absurd (omega arith)), (λ h. let e : 2 ^ suc k ≡ 2 * 2 ^ k = double k in even (2 ^ suc k) (2 ^ k) e))
  where
    even : (n h : ℕ) → n ≡ 2 * h → n / 2 ^ 0 % 2 ≡ 0
    even n h e = omega arith
power_bit (suc k) (suc j) =
    let h = power_bit k j in
    let s : 2 ^ suc k / 2 ^ suc j ≡ 2 ^ k / 2 ^ j = halve k j in
    ((λ e. ap (λ (t : ℕ). t % 2) s ∙ h.0 (omega arith)), (λ n. ap (λ (t : ℕ). t % 2) s ∙ h.1 (λ e. n (ap suc e))))
  where
    halve : (k j : ℕ) → 2 ^ suc k / 2 ^ suc j ≡ 2 ^ k / 2 ^ j
    halve k j =
        let e : 2 ^ suc k ≡ 2 * 2 ^ k = double k in
        let s : 2 ^ suc k / 2 ^ 1 / 2 ^ j ≡ 2 ^ suc k / 2 ^ (1 + j) = shr-shr (2 ^ suc k) 1 j in
        let f : 1 + j ≡ suc j = omega arith in
        let g : 2 ^ suc k / 2 ^ 1 ≡ 2 ^ k = omega arith in
        ap (λ (t : ℕ). 2 ^ suc k / 2 ^ t) (sym f) ∙ sym s ∙ ap (λ (t : ℕ). t / 2 ^ j) g

holds_power : (k j : ℕ) → (¬ (k ≡ j) → holds (2 ^ k) j ≡ pos 0) × (k ≡ j → holds (2 ^ k) j ≡ pos 1)
holds_power k j = let h = power_bit k j in ((λ n. ap pos (h.1 n)), (λ e. ap pos (h.0 e)))

-- the sum dot the single coordinate k
pub dot_single : (m k : ℕ) (y : ℕ → ℤ) → k < m → dot m (holds (2 ^ k)) y ≡ y k
dot_single zero k y lt = absurd (omega arith)
dot_single (suc m) k y lt = elim (lt_or k m lt) [
  | inl below ↦ (let p = dot_single m k y below in
      let z : holds (2 ^ k) m ≡ pos 0 = (holds_power k m).0 (λ e. omega arith) in
      let e : holds (2 ^ k) m *ℤ y m ≡ pos 0 *ℤ y m = ap (λ (t : ℤ). t *ℤ y m) z in omega (arith, ints))
  | inr same ↦ (let z : dot m (holds (2 ^ k)) y ≡ pos 0 = total-zero m (λ j. holds (2 ^ k) j *ℤ y j)
      (λ j lj. ap (λ (t : ℤ). t *ℤ y j) ((holds_power k j).0 (λ e. omega arith)) ∙ omega (arith, ints)) in
      let o : holds (2 ^ k) m ≡ pos 1 = (holds_power k m).1 same in
      let e : holds (2 ^ k) m *ℤ y m ≡ pos 1 *ℤ y m = ap (λ (t : ℤ). t *ℤ y m) o in
      let f : y k ≡ y m = ap y same in omega (arith, ints))
]

-- a row that has a member below m asks for at least the greatest bound at the point with that bound in each coordinate
pub met_by_all : (m n : ℕ) (top b : ℤ) → 0 < n → n < 2 ^ m → pos 0 ≤ℤ top → b ≤ℤ top → (pos 1 *ℤ b) ≤ℤ dot m (holds n) (λ j. top)
met_by_all m n top b pn lt tp bt = go (some_member m n pn lt)
  where
    go : (j : ℕ) × (j < m) × (n / 2 ^ j % 2 ≡ 1) → (pos 1 *ℤ b) ≤ℤ dot m (holds n) (λ j. top)
    go (j, lj, e) =
        let t = term-le m (λ i. holds n i *ℤ top) (λ i li. mul_nonneg (holds n i) top (holds_nonneg n i) tp) j lj in
        let o : holds n j *ℤ top ≡ pos 1 *ℤ top = ap (λ (x : ℕ). pos x *ℤ top) e in
        omega (arith, ints)
