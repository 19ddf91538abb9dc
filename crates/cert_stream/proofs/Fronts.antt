-- What follows numbers in a line, and which bytes can't.
use Rattle.std.proofs.Common.{◌≡◌, ◌≢◌, ℕ, suc, ◌+◌, ◌*◌, ◌%◌, ◌<◌, List, [], ◌∷◌, ◌++◌, length, get_or, refl, sym, ap, subst, ◌∙◌, arith, append_assoc}
use Rattle.std.specs.Prelude.{ℤ, pos, negsuc}
use Rattle.line_format.specs.Numeral.{numbers_text, numeral, signed_numeral}
use Rattle.wide_num.proofs.Decimal.{AreDigits, IsDigit, IsNumeral}
use Rattle.line_format.proofs.Numerals.{Ends, numeral-more, numeral_is, one_signed}

-- after whole numbers and a space stands one number more
pub next_number : (ns ms : List ℤ) (r : List ℕ) → numbers_text ns ++ 32 ∷ r ≡ numbers_text ms → (m : ℤ) × (rest : List ℤ)
    × (r ≡ signed_numeral m ++ numbers_text rest) × (ms ≡ ns ++ m ∷ rest)
next_number [] [] r e = absurd (no_more e)
  where
    no_more : 32 ∷ r ≡ [] → ⊥
    no_more e = cc
next_number [] (m ∷ ms) r e = (m, ms, cc, refl)
next_number (n ∷ ns) [] r e = absurd (no_more e)
  where
    no_more : 32 ∷ (signed_numeral n ++ numbers_text ns) ++ 32 ∷ r ≡ [] → ⊥
    no_more e = cc
next_number (n ∷ ns) (m ∷ ms) r e =
    let tails : (signed_numeral n ++ numbers_text ns) ++ 32 ∷ r ≡ signed_numeral m ++ numbers_text ms = cc in
    let one = one_signed n m (numbers_text ns ++ 32 ∷ r) (numbers_text ms) (first ns) (last ms)
    (sym (append_assoc (signed_numeral n) (numbers_text ns) (32 ∷ r)) ∙ tails) in
    let rest = next_number ns ms r one.1 in
    let heads : m ∷ ms ≡ n ∷ (ns ++ rest.0 ∷ rest.1) = cc (one.0, rest.3) in
    (rest.0, rest.1, rest.2, heads)
  where
    first : (ns : List ℤ) → Ends (numbers_text ns ++ 32 ∷ r)
    first [] = omega arith
    first (x ∷ ns) = omega arith

    last : (ms : List ℤ) → Ends (numbers_text ms)
    last [] = tt
    last (x ∷ ms) = omega arith

-- the first byte of a number, and the one after a minus
pub first_byte : (m : ℤ) (c : ℕ) (r s : List ℕ) → c ∷ r ≡ signed_numeral m ++ s → c ≢ 45 → IsDigit c
first_byte (pos n) c r s e plain = at (numeral n) (numeral_is n).digits (numeral_is n).some e
  where
    at : (ds : List ℕ) → AreDigits ds → 0 < length ds → c ∷ r ≡ ds ++ s → IsDigit c
    at [] d some e = absurd (omega (arith, some))
    at (x ∷ ds) d some e = let same : x ≡ c = cc in subst IsDigit same d.0
first_byte (negsuc n) c r s e plain = absurd (plain cc)

-- and after a minus a digit above 0
pub minus_byte : (m : ℤ) (c : ℕ) (r s : List ℕ) → 45 ∷ c ∷ r ≡ signed_numeral m ++ s → IsDigit c × (48 < c)
minus_byte (pos n) c r s e = absurd (at (numeral n) (numeral_is n).digits (numeral_is n).some e)
  where
    at : (ds : List ℕ) → AreDigits ds → 0 < length ds → 45 ∷ c ∷ r ≡ ds ++ s → ⊥
    at [] d some e = omega (arith, some)
    at (x ∷ ds) d some e = let same : x ≡ 45 = cc in omega (arith, d.0.0, same)
minus_byte (negsuc n) c r s e =
    let tails : c ∷ r ≡ numeral (suc n) ++ s = cc in
    at (numeral (suc n)) (numeral_is (suc n)) tails
  where
    at : (ds : List ℕ) → IsNumeral ds (suc n) → c ∷ r ≡ ds ++ s → IsDigit c × (48 < c)
    at [] is e = absurd (omega (arith, is.some))
    at (x ∷ []) is e = let same : x ≡ c = cc in subst (λ (b : ℕ). IsDigit b × (48 < b)) same (is.digits.0, omega (arith, is.value, is.digits.0))
    at (x ∷ y ∷ ds) is e = let same : x ≡ c = cc in subst (λ (b : ℕ). IsDigit b × (48 < b)) same (is.digits.0, is.leading (omega arith))

-- digits end if neither a digit nor a space follows
no_stop : (rest : List ℤ) (c : ℕ) (r xs ys : List ℕ) → c ≢ 32 → (IsDigit c → ⊥) → AreDigits xs → AreDigits ys → xs ++ c ∷ r ≡ ys ++ numbers_text rest → ⊥
no_stop [] c r [] [] space digit dx dy e = cc e
no_stop (n ∷ rest) c r [] [] space digit dx dy e = space cc
no_stop rest c r [] (y ∷ ys) space digit dx dy e = let same : y ≡ c = cc in digit (subst IsDigit same dy.0)
no_stop [] c r (x ∷ xs) [] space digit dx dy e = cc e
no_stop (n ∷ rest) c r (x ∷ xs) [] space digit dx dy e = let same : x ≡ 32 = cc in omega (arith, dx.0.0, same)
no_stop rest c r (x ∷ xs) (y ∷ ys) space digit dx dy e = no_stop rest c r xs ys space digit dx.1 dy.1 cc

-- digits followed by neither a digit nor a space are no numbers
pub other_byte : (z m : ℤ) (c : ℕ) (r : List ℕ) (rest : List ℤ) → c ≢ 32 → (IsDigit c → ⊥) → signed_numeral z ++ c ∷ r ≡ signed_numeral m ++ numbers_text rest
    → ⊥
other_byte (pos n) (pos m) c r rest space digit e = stuck (numeral n) (numeral m) (numeral_is n).digits (numeral_is m).digits e
  where
    stuck : (xs ys : List ℕ) → AreDigits xs → AreDigits ys → xs ++ c ∷ r ≡ ys ++ numbers_text rest → ⊥
    stuck xs ys dx dy e = no_stop rest c r xs ys space digit dx dy e
other_byte (pos n) (negsuc m) c r rest space digit e = at (numeral n) (numeral_is n) e
  where
    at : (ds : List ℕ) → IsNumeral ds n → ds ++ c ∷ r ≡ 45 ∷ (numeral (suc m) ++ numbers_text rest) → ⊥
    at [] is e = omega (arith, is.some)
    at (x ∷ ds) is e = let same : x ≡ 45 = cc in omega (arith, is.digits.0.0, same)
other_byte (negsuc n) (pos m) c r rest space digit e = at (numeral m) (numeral_is m) e
  where
    at : (ds : List ℕ) → IsNumeral ds m → 45 ∷ (numeral (suc n) ++ c ∷ r) ≡ ds ++ numbers_text rest → ⊥
    at [] is e = omega (arith, is.some)
    at (x ∷ ds) is e = let same : x ≡ 45 = cc in omega (arith, is.digits.0.0, same)
other_byte (negsuc n) (negsuc m) c r rest space digit e =
    let tails : numeral (suc n) ++ c ∷ r ≡ numeral (suc m) ++ numbers_text rest = cc in
    no_stop rest c r (numeral (suc n)) (numeral (suc m)) space digit (numeral_is (suc n)).digits (numeral_is (suc m)).digits tails

-- after 0 no digit follows
pub zero_byte : (m : ℤ) (c : ℕ) (r : List ℕ) (rest : List ℤ) → IsDigit c → 48 ∷ c ∷ r ≡ signed_numeral m ++ numbers_text rest → ⊥
zero_byte (pos n) c r rest digit e = at (numeral n) (numeral_is n) e
  where
    spaces : (rest : List ℤ) → c ∷ r ≡ numbers_text rest → ⊥
    spaces [] e = cc
    spaces (m ∷ rest) e = let same : c ≡ 32 = cc in omega (arith, digit.0, same)

    at : (ds : List ℕ) → IsNumeral ds n → 48 ∷ c ∷ r ≡ ds ++ numbers_text rest → ⊥
    at [] is e = omega (arith, is.some)
    at (x ∷ []) is e = spaces rest cc
    at (x ∷ y ∷ ds) is e = let same : 48 ≡ x = cc in omega (arith, is.leading (omega arith), same)
zero_byte (negsuc n) c r rest digit e = let same : get_or (48 ∷ c ∷ r) 0 0 ≡ 45 = ap (λ (l : List ℕ). get_or l 0 0) e in omega (arith, same)

-- a number has a byte
pub some_byte : (m : ℤ) (s : List ℕ) → [] ≡ signed_numeral m ++ s → ⊥
some_byte (pos n) s e = at (numeral n) (numeral_is n).some e
  where
    at : (ds : List ℕ) → 0 < length ds → [] ≡ ds ++ s → ⊥
    at [] some e = omega (arith, some)
    at (x ∷ ds) some e = cc
some_byte (negsuc n) s e = cc

-- one digit more
pub numeral_push : (v d : ℕ) → 0 < v → d < 10 → numeral (10 * v + d) ≡ numeral v ++ (48 + d) ∷ []
numeral_push v d some low =
    numeral-more (10 * v + d) (omega (arith, some)) ∙ ap (λ (k : ℕ). numeral k ++ (48 + (10 * v + d) % 10) ∷ []) (omega (arith, low))
    ∙ ap (λ (k : ℕ). numeral v ++ k ∷ []) (omega (arith, low))
