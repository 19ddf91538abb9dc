-- The fields of a line, from the last to the first.
use Rattle.std.proofs.Common.{◌≡◌, ℕ, zero, suc, ◌+◌, ◌<◌, ◌^◌, ℤ, pos, List, [], ◌∷◌, ◌++◌, length, get_or, drop, map, sym, ap, ◌∙◌, arith}
use Rattle.std.proofs.lemmas.List.{at_drop_more}
use Rattle.std.specs.Fmt.{decimal}
use Rattle.wide_num.specs.Range.{InRange}
use Rattle.line_format.specs.Numeral.{numbers_text, numeral, signed_numeral}
use Rattle.line_format.specs.Range.{AllInRange}
use Rattle.line_format.proofs.Decimals.{decimal_numeral}

-- one number more, before those that are there
pub number-more : (ns : List ℤ) (k : ℕ) (rest made : List ℕ) → k < length ns → rest ≡ numbers_text (drop (k + 1) ns)
    → made ≡ 32 ∷ signed_numeral (get_or ns k (pos 0)) ++ rest → made ≡ numbers_text (drop k ns)
number-more ns k rest made inside so_far step =
    step
    ∙ ap (λ (t : List ℕ). 32 ∷ signed_numeral (get_or ns k (pos 0)) ++ t) so_far
    ∙ sym (at_drop_more numbers_text ns k (pos 0) inside)

-- the same of a natural number in the library's digits
pub natural-more : (ns : List ℕ) (k : ℕ) (rest made : List ℕ) → k < length ns → get_or ns k 0 < 2 ^ 64
    → rest ≡ numbers_text (map (λ n. pos n) (drop (k + 1) ns)) → made ≡ 32 ∷ decimal (get_or ns k 0) ++ rest
    → made ≡ numbers_text (map (λ n. pos n) (drop k ns))
natural-more ns k rest made inside small so_far step =
    step
    ∙ ap (λ (t : List ℕ). 32 ∷ t ++ rest) (decimal_numeral (get_or ns k 0) (omega (arith, small)))
    ∙ ap (λ (t : List ℕ). 32 ∷ numeral (get_or ns k 0) ++ t) so_far
    ∙ sym (at_drop_more (λ (l : List ℕ). numbers_text (map (λ n. pos n) l)) ns k 0 inside)

-- a number of a list in range is in range
pub range-at : (ns : List ℤ) (i : ℕ) → AllInRange ns → i < length ns → InRange (get_or ns i (pos 0))
range-at [] i all inside = absurd (omega arith)
range-at (n ∷ ns) zero all inside = all.0
range-at (n ∷ ns) (suc i) all inside = range-at ns i all.1 (omega arith)
