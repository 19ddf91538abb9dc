-- Offers, excesses and lowered sums, bidder by bidder.
use Rattle.std.specs.Prelude.{◌≡◌, ℕ, zero, suc, ◌==◌, Bool, true, false, cond, not, ◌&&◌, IsTrue, IsFalse, List, ℤ, pos, ◌-ℤ◌, ◌*ℤ◌, ◌≤ℤ◌, ◌<ℤ◌, int_le, refl}
use Rattle.std.proofs.Common.{sym, ◌∙◌, ap, arith}
use Rattle.std.proofs.lemmas.Int.{ints, clamps}
use Rattle.std.proofs.lemmas.Bool.{ne_eqb}
use Rattle.auction_model.specs.Lowered.{of_bidder, lowered}
use Rattle.projection_laws.proofs.PointLaws.{times_zero}

-- what a bidder adds to an offer or an excess: w what it is worth, b what it wins with, a what it pays, `in` whether the coalition has it
abbrev pub term : ℤ → ℤ → ℤ → ℤ → Bool → ℤ
term d w b a k = d *ℤ w -ℤ cond k (d *ℤ b) a

-- a bidder that is in the coalition if used adds no more than what it counts lowered, less what it pays
pub term_most :
    (d : ℤ) (worth : ℕ → ℕ → ℤ) (surplus : List ℤ) (j i : ℕ) (b a : ℤ) (k : Bool) → worth j 0 ≡ pos 0 → of_bidder surplus j ≡ d *ℤ b -ℤ a
    → (IsTrue (not (i == 0)) → IsTrue k)
    → term d (worth j i) b a k ≤ℤ (lowered d worth surplus j i -ℤ a)
term_most d worth surplus j zero b a true none is h = let z = times_zero d (worth j 0) none in omega (arith, ints, clamps)
term_most d worth surplus j zero b a false none is h = let z = times_zero d (worth j 0) none in omega (arith, ints, clamps)
term_most d worth surplus j (suc i) b a true none is h = omega (arith, ints)
term_most d worth surplus j (suc i) b a false none is h = let e : IsTrue false = h (ap not (ne_eqb (suc i) 0 (omega arith))) in absurd (lie e)
  where
    lie : false ≡ true → ⊥
    lie e = cc

-- whether the row has a bidder: a winner that is not used and whose price is not above its bid
abbrev pub in_row : Bool → ℕ → ℤ → ℤ → ℤ → Bool
in_row winner i d b a = winner && (not (not (i == 0)) && int_le a (d *ℤ b))

-- if the coalition is all but the row, a bidder adds just what it counts lowered, less what it pays
pub term_reached :
    (d : ℤ) (worth : ℕ → ℕ → ℤ) (surplus : List ℤ) (j i : ℕ) (b a : ℤ) (winner : Bool) → worth j 0 ≡ pos 0 → of_bidder surplus j ≡ d *ℤ b -ℤ a
    → (IsFalse winner → (b ≡ pos 0) × (a ≡ pos 0))
    → term d (worth j i) b a (not (in_row winner i d b a)) ≡ lowered d worth surplus j i -ℤ a
term_reached d worth surplus j (suc i) b a true none is h = let e = ne_eqb (suc i) 0 (omega arith) in rw e (omega (arith, ints))
term_reached d worth surplus j (suc i) b a false none is h = omega (arith, ints)
term_reached d worth surplus j zero b a false none is h =
    let z = times_zero d (worth j 0) none in
    let q = h refl in
    let y = times_zero d b q.0 in
    let x : a ≡ pos 0 = q.1 in
    omega (arith, ints, clamps)
term_reached d worth surplus j zero b a true none is h = by (int_le a (d *ℤ b)) refl
  where
    by : (t : Bool) → int_le a (d *ℤ b) ≡ t → term d (worth j 0) b a (not t) ≡ lowered d worth surplus j zero -ℤ a
    by true e = let z = times_zero d (worth j 0) none in omega (arith, ints, clamps)
    by false e = let z = times_zero d (worth j 0) none in omega (arith, ints, clamps)

-- the winning choice counts what is paid
pub term_own : (d : ℤ) (worth : ℕ → ℕ → ℤ) (surplus : List ℤ) (j i : ℕ) (a : ℤ) → worth j 0 ≡ pos 0 → of_bidder surplus j ≡ d *ℤ worth j i -ℤ a
    → (IsFalse (not (i == 0)) → a ≡ pos 0)
    → lowered d worth surplus j i -ℤ a ≡ pos 0
term_own d worth surplus j zero a none is h =
    let z = times_zero d (worth j 0) none in
    let x : a ≡ pos 0 = h refl in
    omega (arith, ints, clamps)
term_own d worth surplus j (suc i) a none is h = omega (arith, ints)

-- a set with a winner whose price is above its bid falls short
pub term_short : (d : ℤ) (worth : ℕ → ℕ → ℤ) (surplus : List ℤ) (j i : ℕ) (b a : ℤ) → worth j 0 ≡ pos 0 → of_bidder surplus j ≡ d *ℤ b -ℤ a
    → IsFalse (not (i == 0)) → int_le a (d *ℤ b) ≡ false
    → term d (worth j i) b a false <ℤ (lowered d worth surplus j i -ℤ a)
term_short d worth surplus j zero b a none is e g = let z = times_zero d (worth j 0) none in omega (arith, ints, clamps)
term_short d worth surplus j (suc i) b a none is e g = absurd (lie (sym (ap not (ne_eqb (suc i) 0 (omega arith))) ∙ e))
  where
    lie : true ≡ false → ⊥
    lie e = cc
