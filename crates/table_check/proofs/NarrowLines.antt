-- A loop that copies a line into 64 bits.
use Rattle.std.proofs.Common.{List, ap, arith, below_more, get_or, get_or-set_other, get_or-set_same, inl, inr, length, pos, set, sym, unsigned_abs}
use Rattle.std.proofs.Common.{ℕ, ℤ, ◌+◌, ◌<◌, ◌^◌, ◌≡◌, ◌≢◌, ◌≤◌}
use Rattle.std.specs.Prelude.{negsuc}
use Rattle.std.proofs.lemmas.List.{ext_get_or, get_or_past}
use Rattle.std.proofs.lemmas.Bool.{cases_lt}
use Rattle.table_check.specs.Narrow.{IsSmall}
use mir.Val.{SFits, of_z}
use mir.Syntax.{w128}

-- the first numbers are those of a list, and none of them is large
abbrev pub IsCopied : List ℤ → List ℤ → ℕ → Type 0
IsCopied xs ys n = (s : ℕ) → s < n → (get_or xs s (pos 0) ≡ get_or ys s (pos 0)) × (unsigned_abs (get_or ys s (pos 0)) ≤ 2 ^ 60)

-- a number whose bits are so small isn't below 0
pub narrow_is : (z : ℤ) (bits : ℕ) → SFits w128 z → bits ≡ of_z w128 z → bits < 2 ^ 60 → z ≡ pos bits
narrow_is (pos n) bits fits is small = ap pos (sym is)
narrow_is (negsuc n) bits fits is small = absurd (omega (arith, fits.sfits, is, small))

-- one number more
pub copied-more : (xs ys : List ℤ) (p : ℕ) (x : ℤ) → p < length xs → IsCopied xs ys p → x ≡ get_or ys p (pos 0) → unsigned_abs (get_or ys p (pos 0)) ≤ 2 ^ 60
    → IsCopied (set xs p x) ys (p + 1)
copied-more xs ys p x inside done is small = below_more (λ s. (get_or (set xs p x) s (pos 0) ≡ get_or ys s (pos 0))
    × (unsigned_abs (get_or ys s (pos 0)) ≤ 2 ^ 60)) p
    (λ s h. let other : s ≢ p = omega arith in (rw get_or-set_other ((done s h).0), (done s h).1))
    (rw get_or-set_same is, small)

-- all numbers are the same
pub copied-all : (xs ys : List ℤ) (n : ℕ) → length xs ≡ length ys → length ys ≤ n → IsCopied xs ys n → xs ≡ ys
copied-all xs ys n places all done = ext_get_or (pos 0) xs ys places (λ s h. (done s (omega arith)).0)

-- none of them is large, and what lies past the end is 0
pub copied-small : (xs ys : List ℤ) (n : ℕ) → length ys ≤ n → IsCopied xs ys n → IsSmall ys
copied-small xs ys n all done s = elim (cases_lt s n) [
  | inl inside ↦ (done s inside).1
  | inr past ↦ rw (get_or_past ys s (pos 0) (omega (arith, all, past))) (omega arith)
]
