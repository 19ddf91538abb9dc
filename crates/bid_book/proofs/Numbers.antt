-- Fields of a line spell one list of numbers.
use Rattle.std.proofs.Common.{◌≡◌, ℕ, ◌<◌, ◌^◌, List, [], ◌∷◌, ◌++◌, refl}
use Rattle.std.specs.List.{AllByRecursion}
use Rattle.std.specs.Fmt.{decimal}
use Rattle.wide_num.proofs.Decimal.{decimal_one}
use Rattle.line_format.specs.Decimals.{decimals_text}
use Rattle.line_format.proofs.DecimalFields.{decimals_stop, number_own, one_field}

abbrev pub AreSmall : List ℕ → Type 0
AreSmall ns = AllByRecursion (λ n. n < 2 ^ 120) ns

one_number : (m n : ℕ) (ms ns : List ℕ) → m < 2 ^ 120 → n < 2 ^ 120 → decimals_text (m ∷ ms) ≡ decimals_text (n ∷ ns)
    → (m ≡ n) × (decimals_text ms ≡ decimals_text ns)
one_number m n ms ns sm sn is =
    let tails : decimal m ++ decimals_text ms ≡ decimal n ++ decimals_text ns = cc in
    let parts = one_field (decimal m) (decimal n) (decimals_text ms) (decimals_text ns) (number_own m sm) (number_own n sn) (decimals_stop ms)
    (decimals_stop ns) tails in
    (decimal_one m n sm sn parts.0, parts.1)

-- numbers below 2 ^ 120 whose fields are the same text are the same
pub numbers_one : (ms ns : List ℕ) → AreSmall ms → AreSmall ns → decimals_text ms ≡ decimals_text ns → ms ≡ ns
numbers_one [] [] sm sn is = refl
numbers_one [] (n ∷ ns) sm sn is = absurd (cc is)
numbers_one (m ∷ ms) [] sm sn is = absurd (cc is)
numbers_one (m ∷ ms) (n ∷ ns) sm sn is =
    let first = one_number m n ms ns sm.0 sn.0 is in
    let rest = numbers_one ms ns sm.1 sn.1 first.1 in cc (first.0, rest)

-- the last element, and those before it
pub snoc_one : {A : Type 0} (xs ys : List A) (x y : A) → xs ++ x ∷ [] ≡ ys ++ y ∷ [] → (xs ≡ ys) × (x ≡ y)
snoc_one [] [] x y is = (refl, cc)
snoc_one [] (b ∷ []) x y is = absurd (cc is)
snoc_one [] (b ∷ c ∷ ys) x y is = absurd (cc is)
snoc_one (a ∷ []) [] x y is = absurd (cc is)
snoc_one (a ∷ c ∷ xs) [] x y is = absurd (cc is)
snoc_one (a ∷ xs) (b ∷ ys) x y is =
    let heads : a ≡ b = cc in
    let tails : xs ++ x ∷ [] ≡ ys ++ y ∷ [] = cc in
    let rest = snoc_one xs ys x y tails in (cc (heads, rest.0), rest.1)
