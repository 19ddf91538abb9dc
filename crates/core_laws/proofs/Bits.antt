-- Rows as bit sets over the winners, and lists with a number for each winner.
use Rattle.std.specs.Prelude.{Bool, List, [], cond, drop, false, get_or, length, not, pos, refl, suc, true, zero, ℕ, ℤ, ◌%◌, ◌&&◌, ◌*ℤ◌, ◌*◌, ◌+◌}
use Rattle.std.specs.Prelude.{◌-◌, ◌/◌, ◌<◌, ◌==◌, ◌^◌, ◌∷◌, ◌≡◌, ◌≤◌}
use Rattle.std.proofs.Common.{sym, ◌∙◌, ap, arith, add-one, drop-cons}
use Rattle.std.proofs.lemmas.Int.{ints}
use Rattle.std.proofs.lemmas.Bool.{ne_eqb}
use Rattle.std.proofs.lemmas.Nat.{mod_below}
use native.Mathlib.Nat.{div-div-eq-div-mul, pow-suc, div-one}
use Rattle.auction_model.specs.Prices.{sum_over}
use Rattle.auction_model.specs.Lowered.{of_bidder}
use Rattle.auction_model.specs.Market.{uses}
use Rattle.wide_num.specs.Sums.{dot, nth, total}
use Rattle.wide_num.proofs.Sums.{total-first, total-same}
use Rattle.far_num.specs.Members.{holds}
use Rattle.core_laws.specs.Winners.{winners_in, for_bidders, has_bit, bits_after, has_member}
use Rattle.core_laws.proofs.Sums.{over-is}

-- whether the first winner is in a set of bits is the remainder of the bits by 2
pub holds-front : (bits : ℕ) → holds bits 0 ≡ pos (bits % 2)
holds-front bits = rw (div-one bits) refl

-- each later winner is in a set of bits if it is, one place lower, in half of them
pub holds-rest : (bits j : ℕ) → holds bits (suc j) ≡ holds (bits / 2) j
holds-rest bits j =
    let e : bits / 2 ^ suc j ≡ bits / 2 / 2 ^ j = ap (λ n. bits / n) (pow-suc 2 j ∙ (let a : 2 ^ j * 2 ≡ 2 * 2 ^ j = omega arith in a))
    ∙ sym (div-div-eq-div-mul bits 2 (2 ^ j)) in
    ap (λ n. pos (n % 2)) e

bit_value : (r : ℕ) (x : ℤ) → r < 2 → cond (r == 1) x (pos 0) ≡ pos r *ℤ x
bit_value zero x h = omega (arith, ints)
bit_value (suc zero) x h = omega (arith, ints)
bit_value (suc (suc r)) x h = absurd (omega arith)

-- the sum of a row over the bidders, the bidders counted from 0
pub row_sum-from : (z : List ℕ) (xs : List ℤ) (bits : ℕ) → total (length z) (λ k. cond (has_bit z bits k) (nth (for_bidders z xs) k) (pos 0)) ≡ dot
    (winners_in z) (holds bits) (nth xs)
row_sum-from [] xs bits = refl
row_sum-from (zero ∷ z) xs bits =
    total-first (length z) (λ k. cond (has_bit (zero ∷ z) bits k) (nth (for_bidders (zero ∷ z) xs) k) (pos 0))
    ∙ (let h = row_sum-from z xs bits in omega (arith, ints))
row_sum-from (suc i ∷ z) [] bits =
    let a = total-first (length z) (λ k. cond (has_bit (suc i ∷ z) bits k) (nth (for_bidders (suc i ∷ z) []) k) (pos 0)) in
    let h = row_sum-from z [] (bits / 2) in
    let c = total-first (winners_in z) (λ j. holds bits j *ℤ nth [] j) in
    let d = total-same (winners_in z) (λ j. holds bits (suc j) *ℤ nth [] (suc j)) (λ j. holds (bits / 2) j *ℤ nth [] j)
    (λ j lt. ap (λ (t : ℤ). t *ℤ pos 0) (holds-rest bits j)) in
    let e = bit_value (bits % 2) (pos 0) (mod_below bits 2 (omega arith)) in
    let f : holds bits 0 *ℤ pos 0 ≡ pos (bits % 2) *ℤ pos 0 = ap (λ (t : ℤ). t *ℤ pos 0) (holds-front bits) in
    omega (arith, ints)
row_sum-from (suc i ∷ z) (x ∷ xs) bits =
    let a = total-first (length z) (λ k. cond (has_bit (suc i ∷ z) bits k) (nth (for_bidders (suc i ∷ z) (x ∷ xs)) k) (pos 0)) in
    let h = row_sum-from z xs (bits / 2) in
    let c = total-first (winners_in z) (λ j. holds bits j *ℤ nth (x ∷ xs) j) in
    let d = total-same (winners_in z) (λ j. holds bits (suc j) *ℤ nth (x ∷ xs) (suc j)) (λ j. holds (bits / 2) j *ℤ nth xs j)
    (λ j lt. ap (λ (t : ℤ). t *ℤ nth xs j) (holds-rest bits j)) in
    let e = bit_value (bits % 2) x (mod_below bits 2 (omega arith)) in
    let f : holds bits 0 *ℤ x ≡ pos (bits % 2) *ℤ x = ap (λ (t : ℤ). t *ℤ x) (holds-front bits) in
    omega (arith, ints)

-- the sum of a row over bidders is the sum over winners
pub row-sum : (z : List ℕ) (xs : List ℤ) (bits : ℕ) → sum_over (has_member z bits) (of_bidder (for_bidders z xs)) (length z) ≡ dot (winners_in z) (holds bits)
    (nth xs)
row-sum z xs bits =
    over-is (has_member z bits) (of_bidder (for_bidders z xs)) (length z)
    ∙ total-same (length z) (λ k. cond (has_member z bits (suc k)) (of_bidder (for_bidders z xs) (suc k)) (pos 0))
    (λ k. cond (has_bit z bits k) (nth (for_bidders z xs) k) (pos 0))
    (λ k lt. let e : suc k - 1 ≡ k = omega arith in rw e refl)
    ∙ row_sum-from z xs bits

-- the bits of a set are those of its winners
pub bits-hold : (z : List ℕ) (s : ℕ → Bool) (k i : ℕ) → has_bit z (bits_after z s k) i ≡ (uses z (suc i) && s (suc (k + i)))
bits-hold [] s k i = refl
bits-hold (zero ∷ z) s k zero = refl
bits-hold (zero ∷ z) s k (suc i) =
    let a : suc k + i ≡ k + suc i = omega arith in
    let b : suc (suc i) - 1 ≡ suc (suc i - 1) = omega arith in
    bits-hold z s (suc k) i ∙ rw (a, b) refl
bits-hold (suc n ∷ z) s k zero = at (s (suc k)) refl
  where
    used : uses (suc n ∷ z) 1 ≡ true
    used = ap not (ne_eqb (suc n) 0 (omega arith))

    at : (t : Bool) → s (suc k) ≡ t → ((cond (s (suc k)) 1 0 + 2 * bits_after z s (suc k)) % 2) == 1 ≡ (uses (suc n ∷ z) 1 && s (suc (k + 0)))
    at true e =
        let none : k + 0 ≡ k = omega arith in
        let odd : (cond (s (suc k)) 1 0 + 2 * bits_after z s (suc k)) % 2 ≡ 1 = rw e (omega arith) in
        rw (odd, used, none, e) refl
    at false e =
        let none : k + 0 ≡ k = omega arith in
        let even : (cond (s (suc k)) 1 0 + 2 * bits_after z s (suc k)) % 2 ≡ 0 = rw e (omega arith) in
        rw (even, used, none, e) refl
bits-hold (suc n ∷ z) s k (suc i) =
    let a : suc k + i ≡ k + suc i = omega arith in
    let b : suc (suc i) - 1 ≡ suc (suc i - 1) = omega arith in
    let half : (cond (s (suc k)) 1 0 + 2 * bits_after z s (suc k)) / 2 ≡ bits_after z s (suc k) = halved (s (suc k)) (bits_after z s (suc k)) in
    ap (λ t. has_bit z t i) half ∙ bits-hold z s (suc k) i ∙ rw (a, b) refl
  where
    halved : (t : Bool) (r : ℕ) → (cond t 1 0 + 2 * r) / 2 ≡ r
    halved true r = omega arith
    halved false r = omega arith

-- the bits of any set of bidders are less than 2 to the number of winners
pub bits-below : (z : List ℕ) (s : ℕ → Bool) (k : ℕ) → bits_after z s k < 2 ^ winners_in z
bits-below [] s k = omega arith
bits-below (zero ∷ z) s k = bits-below z s (suc k)
bits-below (suc n ∷ z) s k =
    let e : 2 ^ suc (winners_in z) ≡ 2 ^ winners_in z * 2 = pow-suc 2 (winners_in z) in
    let h = bits-below z s (suc k) in
    one (s (suc k)) (bits_after z s (suc k)) (2 ^ winners_in z) (2 ^ suc (winners_in z)) e h
  where
    one : (t : Bool) (r p q : ℕ) → q ≡ p * 2 → r < p → cond t 1 0 + 2 * r < q
    one true r p q e h = omega arith
    one false r p q e h = omega arith

-- a set with no bit is empty
pub no-bit : (z : List ℕ) (i : ℕ) → has_bit z 0 i ≡ false
no-bit [] i = refl
no-bit (zero ∷ z) zero = refl
no-bit (zero ∷ z) (suc i) = no-bit z i
no-bit (suc n ∷ z) zero = refl
no-bit (suc n ∷ z) (suc i) = no-bit z i

-- one bidder more, from the last
pub bits-skip : (z : List ℕ) (s : ℕ → Bool) (k : ℕ) → k < length z → uses z (k + 1) ≡ false → bits_after (drop k z) s k ≡ bits_after (drop (k + 1) z) s (k + 1)
bits-skip z s k lt e = rw (add-one, drop-cons z k 0) (go (get_or z k 0) (let a : k + 1 - 1 ≡ k = omega arith in rw a at e))
  where
    go : (i : ℕ) → not (i == 0) ≡ false → bits_after (i ∷ drop (suc k) z) s k ≡ bits_after (drop (suc k) z) s (suc k)
    go zero q = refl
    go (suc i) q = absurd (lie (sym (ap not (ne_eqb (suc i) 0 (omega arith))) ∙ q))
      where
        lie : true ≡ false → ⊥
        lie h = cc

-- from a winner on, the bits are its own and twice those after it, and the winners one more than after it
pub bits-take : (z : List ℕ) (s : ℕ → Bool) (k : ℕ) → k < length z → uses z (k + 1) ≡ true
    → (bits_after (drop k z) s k ≡ cond (s (k + 1)) 1 0 + 2 * bits_after (drop (k + 1) z) s (k + 1))
    × (winners_in (drop k z) ≡ suc (winners_in (drop (k + 1) z)))
bits-take z s k lt e = rw (add-one, drop-cons z k 0) (go (get_or z k 0) (let a : k + 1 - 1 ≡ k = omega arith in rw a at e))
  where
    go : (i : ℕ) → not (i == 0) ≡ true → (bits_after (i ∷ drop (suc k) z) s k ≡ cond (s (suc k)) 1 0 + 2 * bits_after (drop (suc k) z) s (suc k))
        × (winners_in (i ∷ drop (suc k) z) ≡ suc (winners_in (drop (suc k) z)))
    go zero q = absurd (lie q)
      where
        lie : false ≡ true → ⊥
        lie h = cc
    go (suc i) q = (refl, refl)

winners-drop : (z : List ℕ) (k : ℕ) → winners_in (drop k z) ≤ winners_in z
winners-drop [] zero = omega arith
winners-drop [] (suc k) = omega arith
winners-drop (i ∷ z) zero = omega arith
winners-drop (zero ∷ z) (suc k) = winners-drop z k
winners-drop (suc i ∷ z) (suc k) = omega (arith, winners-drop z k)

two_power : (a b : ℕ) → a ≤ b → 2 ^ a ≤ 2 ^ b
two_power zero zero h = omega arith
two_power zero (suc b) h = omega (arith, pow-suc 2 b, two_power zero b (omega arith))
two_power (suc a) zero h = absurd (omega arith)
two_power (suc a) (suc b) h = omega (arith, pow-suc 2 a, pow-suc 2 b, two_power a b (omega arith))

-- of at most 16 winners, the bits after any one of them are less than 32,768
pub bits-small : (z : List ℕ) (s : ℕ → Bool) (k : ℕ) → k < length z → winners_in z ≤ 16 → uses z (k + 1) ≡ true → bits_after (drop (k + 1) z) s (k + 1) < 32768
bits-small z s k lt few e =
    let t = (bits-take z s k lt e).1 in
    let w = winners-drop z k in
    let b = bits-below (drop (k + 1) z) s (k + 1) in
    let p : 2 ^ winners_in (drop (k + 1) z) ≤ 2 ^ 15 = two_power (winners_in (drop (k + 1) z)) 15 (omega arith) in
    omega arith
