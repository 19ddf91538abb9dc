-- How many rows are kept, and the sizes of their multipliers.
use Rattle.std.specs.Prelude.{◌≡◌, ◌≢◌, ℕ, zero, suc, ◌+◌, ◌-◌, ◌*◌, ◌<◌, ◌⊎◌, filter, List, [], ◌∷◌, length, ℤ, pos, negsuc, unsigned_abs, refl}
use Rattle.std.specs.List.{AllByRecursion}
use Rattle.std.proofs.Common.{ap, arith, inl, inr}
use Rattle.far_num.specs.declared.Row.{Row}
use Rattle.nearest_point.specs.Numbers.{AreBelow, is_zero, pairs_used}
use Rattle.wide_num.specs.Sums.{nth}
use Rattle.core_price.specs.Kept.{is_used, seconds, with_pairs}
use Rattle.core_price.specs.declared.priced.PricedRow.{PricedRow}
use Rattle.core_price.proofs.KeptSums.{AreLong, kept-each, kept_of, take_or_skip, unused-none, used-some}

-- 1 for a pair that isn't 0, 0
abbrev counted : ℤ → ℤ → ℕ
counted f s = 1 - is_zero f * is_zero s

counted-some : (f s : ℤ) → (f ≢ pos 0) ⊎ (s ≢ pos 0) → counted f s ≡ 1
counted-some (pos zero) (pos zero) (inl d) = absurd (d refl)
counted-some (pos zero) (pos zero) (inr d) = absurd (d refl)
counted-some (pos zero) (pos (suc s)) h = refl
counted-some (pos zero) (negsuc s) h = refl
counted-some (pos (suc f)) s h = omega arith
counted-some (negsuc f) s h = omega arith

counted-none : (f s : ℤ) → (f ≡ pos 0) × (s ≡ pos 0) → counted f s ≡ 0
counted-none f s h = rw (h.0, h.1) refl

count-from_first : (n : ℕ) (f s : ℕ → ℤ) → pairs_used (suc n) f s ≡ counted (f 0) (s 0) + pairs_used n (λ i. f (suc i)) (λ i. s (suc i))
count-from_first zero f s = omega arith
count-from_first (suc n) f s = let r = count-from_first n f s in omega (arith, r)

count-one : (x : PricedRow) (xs : List PricedRow) → length (filter is_used (x ∷ xs)) ≡ counted x.first x.second + length (filter is_used xs)
count-one x xs =
    elim (take_or_skip x xs) [
      | inl t ↦ let l = ap (λ (k : List PricedRow). length k) t.1 in let c = counted-some x.first x.second (used-some x.first x.second t.0) in
          omega (arith, l, c)
      | inr t ↦ let l = ap (λ (k : List PricedRow). length k) t.1 in let c = counted-none x.first x.second (unused-none x.first x.second t.0) in
          omega (arith, l, c)
    ]

-- as many rows are kept as have a pair other than 0, 0
pub kept-count :
    (rows : List Row) (choices : List (List ℕ)) (first second : List ℤ) → AreLong rows choices first second
    → length (kept_of rows choices first second) ≡ pairs_used (length rows) (nth first) (nth second)
kept-count [] choices first second long = refl
kept-count (r ∷ rows) [] first second long = absurd (omega (arith, long.choices_long))
kept-count (r ∷ rows) (c ∷ choices) [] second long = absurd (omega (arith, long.first_long))
kept-count (r ∷ rows) (c ∷ choices) (f ∷ first) [] long = absurd (omega (arith, long.second_long))
kept-count (r ∷ rows) (c ∷ choices) (f ∷ first) (s ∷ second) long =
    let rest = kept-count rows choices first second (record {
      choices_long = omega (arith, long.choices_long);
      first_long =
          omega (arith, long.first_long);
      second_long = omega (arith, long.second_long);
    }) in
    let one = count-one (record { row = r; choice = c; first = f; second = s }) (with_pairs rows choices first second) in
    let all = count-from_first (length rows) (nth (f ∷ first)) (nth (s ∷ second)) in
    omega (arith, rest, one, all)

below-all : (limit : ℕ) (kept : List PricedRow) → AllByRecursion (λ (r : PricedRow). unsigned_abs r.second < limit) kept → AreBelow limit (seconds kept)
below-all limit [] all i lt = absurd (omega arith)
below-all limit (r ∷ kept) all zero lt = all.0
below-all limit (r ∷ kept) all (suc i) lt = below-all limit kept all.1 i (omega arith)

-- the second multipliers that are kept are no larger than all
pub kept-seconds_below : (limit : ℕ) (rows : List Row) (choices : List (List ℕ)) (first second : List ℤ) → AreLong rows choices first second
    → AreBelow limit second → AreBelow limit (seconds (kept_of rows choices first second))
kept-seconds_below limit rows choices first second long below =
    below-all limit (kept_of rows choices first second)
    (kept-each (λ (r : PricedRow). unsigned_abs r.second < limit) rows choices first second long (λ i lt used. below i (omega (arith, lt, long.second_long))))
