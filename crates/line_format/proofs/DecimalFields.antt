-- Decimal numbers as the fields of a line.
use Rattle.std.proofs.Common.{◌≡◌, ◌≢◌, ℕ, ◌<◌, ◌^◌, List, [], ◌∷◌, ◌++◌, refl, sym, ◌∙◌, arith}
use Rattle.std.specs.List.{AllByRecursion}
use Rattle.std.specs.Fmt.{decimal}
use Rattle.wide_num.proofs.Decimal.{numeral_decimal, AreDigits}
use Rattle.line_format.specs.Decimals.{decimals_text}
use Rattle.line_format.specs.Fields.{FieldEnds}

-- no byte is a space
abbrev pub NoSpace : List ℕ → Type 0
NoSpace cs = AllByRecursion (λ c. c ≢ 32) cs

-- a text falls apart at its first space in one way
pub one_field : (a b x y : List ℕ) → NoSpace a → NoSpace b → FieldEnds x → FieldEnds y → a ++ x ≡ b ++ y → (a ≡ b) × (x ≡ y)
one_field [] [] x y na nb sx sy is = (refl, is)
one_field [] (d ∷ b) [] y na nb sx sy is = absurd (cc is)
one_field [] (d ∷ b) (c ∷ x) y na nb sx sy is = let e : c ≡ d = cc in absurd (nb.0 (sym e ∙ sx))
one_field (d ∷ a) [] x [] na nb sx sy is = absurd (cc is)
one_field (d ∷ a) [] x (c ∷ y) na nb sx sy is = let e : d ≡ c = cc in absurd (na.0 (e ∙ sy))
one_field (c ∷ a) (d ∷ b) x y na nb sx sy is =
    let heads : c ≡ d = cc in
    let tails : a ++ x ≡ b ++ y = cc in
    let rest = one_field a b x y na.1 nb.1 sx sy tails in (cc (heads, rest.0), rest.1)

-- numbers after spaces are nothing, or begin with a space
pub decimals_stop : (ns : List ℕ) → FieldEnds (decimals_text ns)
decimals_stop [] = tt
decimals_stop (n ∷ ns) = refl

-- no digit is a space
digits_own : (ds : List ℕ) → AreDigits ds → NoSpace ds
digits_own [] all = tt
digits_own (d ∷ ds) all = ((λ space. omega (arith, all.0)), digits_own ds all.1)

-- the decimal text of a number below 2^120 holds no space
pub number_own : (n : ℕ) → n < 2 ^ 120 → NoSpace (decimal n)
number_own n small = digits_own (decimal n) (numeral_decimal n (omega arith)).digits
