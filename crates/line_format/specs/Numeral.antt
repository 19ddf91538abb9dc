-- Numbers of any size in decimal digits.
use Rattle.std.specs.Prelude.{ℕ, zero, suc, ◌+◌, ◌/◌, ◌%◌, true, false, nat_lt, List, [], ◌∷◌, ◌++◌, ℤ, pos, negsuc}

-- the digits of n, at most that many
unfoldable pub digits_of : ℕ → ℕ → List ℕ
digits_of zero n = []
digits_of (suc most) n = elim (nat_lt n 10) [ true ↦ (48 + n) ∷ [] | false ↦ digits_of most (n / 10) ++ (48 + n % 10) ∷ [] ]

-- decimal digits without a leading zero
unfoldable pub numeral : ℕ → List ℕ
numeral n = digits_of (suc n) n

-- the numeral, with '-' before a number
-- below 0
abbrev pub signed_numeral : ℤ → List ℕ
signed_numeral (pos n) = numeral n
signed_numeral (negsuc n) = 45 ∷ numeral (suc n)

-- numbers, each after one space
abbrev pub numbers_text : List ℤ → List ℕ
numbers_text [] = []
numbers_text (n ∷ ns) = 32 ∷ signed_numeral n ++ numbers_text ns
