-- Sets of bits with one bidder more.
use Rattle.std.specs.Prelude.{◌≡◌, ◌⊎◌, ℕ, zero, suc, ◌+◌, ◌-◌, ◌*◌, ◌/◌, ◌%◌, ◌^◌, ◌≤◌, ◌<◌, true, false, ◌==◌, refl}
use Rattle.std.specs.Int.{bit_at}
use Rattle.std.proofs.Common.{inl, inr, sym, ◌∙◌, ap, arith, subst}
use Rattle.std.proofs.lemmas.Bool.{eq-eqb, ne_eqb, cases_eq, false≢true}
use Rattle.std.proofs.lemmas.Nat.Bits.{bit_at-lt, bit_at_lowest, bit_at-suc, bit_at_ones, bit_at-zero, bit_at_above}
use native.Mathlib.Nat.{pow-suc}
use Rattle.slot_places.specs.Board.{joined, outside}
use Rattle.slot_places.specs.SetTable.{holds}
use Rattle.slot_places.proofs.SetLaws.{joined-self, joined-other, outside-joined}

twice : (k : ℕ) → 2 ^ suc k ≡ 2 * 2 ^ k
twice k = pow-suc 2 k ∙ (let a : 2 ^ k * 2 ≡ 2 * 2 ^ k = omega arith in a)

half-more : (n p : ℕ) → (n + 2 * p) / 2 ≡ n / 2 + p
half-more n p = omega arith

rest-more : (n p : ℕ) → (n + 2 * p) % 2 ≡ n % 2
rest-more n p = omega arith

even-one : (n : ℕ) → n % 2 ≡ 0 → (n + 1) / 2 ≡ n / 2
even-one n e = omega (arith, e)

odd-one : (n : ℕ) → n % 2 ≡ 0 → (n + 1) % 2 ≡ 1
odd-one n e = omega (arith, e)

-- a bit that was 0 is added, and the other bits stay
pub bit-other : (k n i : ℕ) → bit_at n k ≡ 0 → (i ≡ k → ⊥) → bit_at (n + 2 ^ k) i ≡ bit_at n i
bit-other zero n zero out other = absurd (other refl)
bit-other zero n (suc i) out other = bit_at-suc (n + 1) i ∙ (ap (λ m. bit_at m i) (even-one n (sym (bit_at_lowest n) ∙ out)) ∙ sym (bit_at-suc n i))
bit-other (suc k) n zero out other =
    bit_at_lowest (n + 2 ^ suc k) ∙ (ap (λ p. (n + p) % 2) (twice k) ∙ (rest-more n (2 ^ k) ∙ sym (bit_at_lowest n)))
bit-other (suc k) n (suc i) out other =
    bit_at-suc (n + 2 ^ suc k) i
    ∙ (ap (λ m. bit_at m i) (ap (λ p. (n + p) / 2) (twice k) ∙ half-more n (2 ^ k))
    ∙ (bit-other k (n / 2) i (sym (bit_at-suc n k) ∙ out) (λ e. other (ap suc e)) ∙ sym (bit_at-suc n i)))

-- the bit that is added is 1
pub bit-self : (k n : ℕ) → bit_at n k ≡ 0 → bit_at (n + 2 ^ k) k ≡ 1
bit-self zero n out = bit_at_lowest (n + 1) ∙ odd-one n (sym (bit_at_lowest n) ∙ out)
bit-self (suc k) n out =
    bit_at-suc (n + 2 ^ suc k) k
    ∙ (ap (λ m. bit_at m k) (ap (λ p. (n + p) / 2) (twice k) ∙ half-more n (2 ^ k)) ∙ bit-self k (n / 2) (sym (bit_at-suc n k) ∙ out))

-- who isn't in the set has no bit
pub holds-out : (n j : ℕ) → holds n j ≡ false → bit_at n (j - 1) ≡ 0
holds-out n j f =
    let low = bit_at-lt n (j - 1) in
    let other : bit_at n (j - 1) ≡ 1 → ⊥ = λ e. false≢true (sym f ∙ eq-eqb (bit_at n (j - 1)) 1 e) in
    omega (arith, low, other)

-- the set with bidder j is the set of bits with its bit
pub holds-joined : (n j i : ℕ) → 0 < j → holds n j ≡ false → 0 < i → joined j (holds n) i ≡ holds (n + 2 ^ (j - 1)) i
holds-joined n j i some new positive =
    elim (cases_eq i j) [
      | inl same ↦
          subst (λ k. joined j (holds n) k ≡ holds (n + 2 ^ (j - 1)) k) (sym same)
          (joined-self j (holds n) ∙ sym (eq-eqb (bit_at (n + 2 ^ (j - 1)) (j - 1)) 1 (bit-self (j - 1) n (holds-out n j new))))
      | inr other ↦
          joined-other j (holds n) i other
          ∙ ap (λ x. x == 1) (sym (bit-other (j - 1) n (i - 1) (holds-out n j new) (λ e. other (omega (arith, e, some, positive)))))
    ]

-- the set of no bits holds nobody
pub holds-nobody : (i : ℕ) → holds 0 i ≡ false
holds-nobody i = ap (λ x. x == 1) (bit_at-zero (i - 1))

-- all bidders are in the set of all bits
pub holds-everyone : (n i : ℕ) → 0 < i → i ≤ n → holds (2 ^ n - 1) i ≡ true
holds-everyone n i some low = eq-eqb (bit_at (2 ^ n - 1) (i - 1)) 1 (bit_at_ones n (i - 1) (omega (arith, some, low)))

-- bits past the last bidder are 0
pub holds-within : (n k i : ℕ) → n < 2 ^ k → k < i → holds n i ≡ false
holds-within n k i low past = ap (λ x. x == 1) (bit_at_above n k (i - 1) low (omega (arith, past)))

small-at : (p k n : ℕ) → p < k → n < 2 ^ k → bit_at n p ≡ 0 → n + 2 ^ p < 2 ^ k
small-at p zero n low small out = absurd (omega (arith, low))
small-at zero (suc k) n low small out =
    let e : n % 2 ≡ 0 = sym (bit_at_lowest n) ∙ out in
    let t = twice k in
    omega (arith, e, t, small)
small-at (suc p) (suc k) n low small out =
    let t = twice k in
    let u = twice p in
    let half : n / 2 < 2 ^ k = omega (arith, t, small) in
    let rest = small-at p k (n / 2) (omega (arith, low)) half (sym (bit_at-suc n p) ∙ out) in
    omega (arith, t, u, rest)

-- the set with one more is one of the sets
pub joined-small : (k n j : ℕ) → n < 2 ^ k → 0 < j → j ≤ k → holds n j ≡ false → n + 2 ^ (j - 1) < 2 ^ k
joined-small k n j low some inside new = small-at (j - 1) k n (omega (arith, some, inside)) low (holds-out n j new)

out-at : (k n : ℕ) → n + 1 < 2 ^ k → (i : ℕ) × (i < k) × (bit_at n i ≡ 0)
out-at zero n small = absurd (omega (arith, small))
out-at (suc k) n small = by (cases_eq (n % 2) 0) (λ half. out-at k (n / 2) half)
  where
    by : (n % 2 ≡ 0) ⊎ (n % 2 ≡ 0 → ⊥) → (n / 2 + 1 < 2 ^ k → (i : ℕ) × (i < k) × (bit_at (n / 2) i ≡ 0)) → (i : ℕ) × (i < suc k) × (bit_at n i ≡ 0)
    by (inl even) rest = (0, omega arith, bit_at_lowest n ∙ even)
    by (inr odd) rest =
        let t = twice k in
        let q = rest (omega (arith, t, small, odd)) in
        (suc q.0, omega (arith, q.1), bit_at-suc n q.0 ∙ q.2)

-- after a set that isn't that of all somebody is outside
pub some-out : (k n : ℕ) → n + 1 < 2 ^ k → (j : ℕ) × (0 < j) × (j ≤ k) × (holds n j ≡ false)
some-out k n small =
    let q = out-at k n small in
    let e : suc q.0 - 1 ≡ q.0 = omega arith in (
      suc q.0,
      omega arith,
      omega (arith, q.1),
      ne_eqb (bit_at n (suc q.0 - 1)) 1
          (λ t. let z : bit_at n (suc q.0 - 1) ≡ 0 = subst (λ h. bit_at n h ≡ 0) (sym e) q.2 in omega (arith, t, z)),
    )

-- a set that isn't that of all has bidders outside
pub outside-positive : (k n : ℕ) → n + 1 < 2 ^ k → 0 < outside (holds n) k
outside-positive k n small =
    let q = some-out k n small in
    let more = outside-joined q.0 (holds n) k q.1 q.2 q.3 in
    omega (arith, more)

-- one more number
pub all-to : (n k : ℕ) → ((h : ℕ) → 0 < h → h ≤ k → holds n h ≡ true) → holds n (k + 1) ≡ true → (h : ℕ) → 0 < h → h ≤ k + 1 → holds n h ≡ true
all-to n k all own h some low =
    elim (cases_eq h (k + 1)) [
      | inl same ↦ subst (λ i. holds n i ≡ true) (sym same) own
      | inr other ↦ all h some (omega (arith, low, other))
    ]

-- a set that isn't that of all doesn't hold everyone
pub none-out : (k n : ℕ) → n + 1 < 2 ^ k → ((h : ℕ) → 0 < h → h ≤ k → holds n h ≡ true) → ⊥
none-out k n small all = let q = some-out k n small in false≢true (sym q.3 ∙ all q.0 q.1 q.2)

-- there is at least one set, however few the bidders
pub power-positive : (k : ℕ) → 0 < 2 ^ k
power-positive zero = omega arith
power-positive (suc k) = let t = twice k in let p = power-positive k in omega (arith, t, p)

power-more : (n m : ℕ) → 2 ^ n ≤ 2 ^ (n + m)
power-more n zero = let e : n + 0 ≡ n = omega arith in subst (λ k. 2 ^ n ≤ 2 ^ k) (sym e) (omega arith)
power-more n (suc m) =
    let rest = power-more n m in
    let t = twice (n + m) in
    let e : n + suc m ≡ suc (n + m) = omega arith in
    subst (λ k. 2 ^ n ≤ 2 ^ k) (sym e) (omega (arith, rest, t))

-- six bidders have 64 sets
pub power-most : (n : ℕ) → n ≤ 6 → 2 ^ n ≤ 64
power-most n low = let e : n + (6 - n) ≡ 6 = omega (arith, low) in subst (λ k. 2 ^ n ≤ 2 ^ k) e (power-more n (6 - n))
