-- A numeral is digits without a leading zero, and a number has one numeral, whatever its size.
use Rattle.std.proofs.Common.{Bool, List, [], ap, append_assoc, arith, false, get_or, inl, inr, length, length-append, refl, subst, suc, sym, true}
use Rattle.std.proofs.Common.{zero, ℕ, ◌%◌, ◌*◌, ◌++◌, ◌+◌, ◌-◌, ◌/◌, ◌<◌, ◌∙◌, ◌∷◌, ◌≡◌, ◌≤◌}
use Rattle.std.proofs.lemmas.List.{append-nil}
use Rattle.std.proofs.lemmas.Bool.{cases_lt, lt-ltb, le-ltb}
use Rattle.std.specs.Prelude.{ℤ, pos, negsuc}
use Rattle.wide_num.proofs.Decimal.{read_on, read_on-append, AreDigits, digits_push, IsNumeral}
use Rattle.line_format.specs.Numeral.{digits_of, numeral, signed_numeral, numbers_text}

digits-one : (most n : ℕ) → n < 10 → digits_of (suc most) n ≡ (48 + n) ∷ []
unfolding digits_of
digits-one most n lt = ap (λ (b : Bool). elim b as (λ _. List ℕ) [ true ↦ (48 + n) ∷ [] | false ↦ digits_of most (n / 10) ++ (48 + n % 10) ∷ [] ])
    (lt-ltb n 10 lt)

digits-more : (most n : ℕ) → 10 ≤ n → digits_of (suc most) n ≡ digits_of most (n / 10) ++ (48 + n % 10) ∷ []
unfolding digits_of
digits-more most n le = ap (λ (b : Bool). elim b as (λ _. List ℕ) [ true ↦ (48 + n) ∷ [] | false ↦ digits_of most (n / 10) ++ (48 + n % 10) ∷ [] ])
    (le-ltb n 10 le)

digits_same : (f g n : ℕ) → n < f → n < g → digits_of f n ≡ digits_of g n
digits_same zero g n lf lg = absurd (omega arith)
digits_same (suc f) zero n lf lg = absurd (omega arith)
digits_same (suc f) (suc g) n lf lg =
    elim (cases_lt n 10) [
      | inl low ↦ digits-one f n low ∙ sym (digits-one g n low)
      | inr high ↦ digits-more f n high ∙ ap (λ (l : List ℕ). l ++ (48 + n % 10) ∷ []) (digits_same f g (n / 10) (omega arith) (omega arith))
          ∙ sym (digits-more g n high)
    ]

-- the numeral of a number below 10 is its one digit
pub numeral-one : (n : ℕ) → n < 10 → numeral n ≡ (48 + n) ∷ []
unfolding numeral
numeral-one n lt = digits-one n n lt

-- from 10 on, a numeral is that of the tenth part rounded down, and the last digit after it
pub numeral-more : (n : ℕ) → 10 ≤ n → numeral n ≡ numeral (n / 10) ++ (48 + n % 10) ∷ []
unfolding numeral
numeral-more n le = digits-more n n le ∙ ap (λ (l : List ℕ). l ++ (48 + n % 10) ∷ []) (digits_same n (suc (n / 10)) (n / 10) (omega arith) (omega arith))

record Good (ds : List ℕ) (n : ℕ) : Type 0 where
  is : IsNumeral ds n
  first : 0 < n → 48 < get_or ds 0 0

first_same : (ds : List ℕ) (c : ℕ) → 0 < length ds → get_or (ds ++ c ∷ []) 0 0 ≡ get_or ds 0 0
first_same [] c some = absurd (omega arith)
first_same (d ∷ ds) c some = refl

good_more : (n : ℕ) (ds : List ℕ) → 10 ≤ n → Good ds (n / 10) → Good (ds ++ (48 + n % 10) ∷ []) n
good_more n ds le p =
    let lead : 48 < get_or (ds ++ (48 + n % 10) ∷ []) 0 0 = rw (first_same ds (48 + n % 10) p.is.some) (p.first (omega arith)) in
    let value : read_on 0 (ds ++ (48 + n % 10) ∷ []) ≡ n = read_on-append 0 ds ((48 + n % 10) ∷ []) ∙ ap (λ (k : ℕ). 10 * k + (48 + n % 10 - 48)) p.is.value
    ∙ omega arith in
    record {
      is = record {
        digits = digits_push ds (48 + n % 10) p.is.digits (omega arith, omega arith);
        some = omega (arith, length-append ds ((48 + n % 10) ∷ []));
        leading = λ long. lead;
        value = value;
      };
      first = λ some. lead;
    }

good : (f n : ℕ) → n < f → Good (numeral n) n
good zero n lt = absurd (omega arith)
good (suc f) n lt =
    elim (cases_lt n 10) [
      | inl low ↦ subst (λ (l : List ℕ). Good l n) (sym (numeral-one n low)) (record {
        is = record { digits = ((omega arith, omega arith), tt); some = omega arith; leading = λ long. absurd (omega (arith, long)); value = omega arith };
        first = λ some. omega (arith, some);
      })
      | inr high ↦ subst (λ (l : List ℕ). Good l n) (sym (numeral-more n high)) (good_more n (numeral (n / 10)) high (good f (n / 10) (omega arith)))
    ]

-- the digits of a numeral write its number, without a leading zero
pub numeral_is : (n : ℕ) → IsNumeral (numeral n) n
numeral_is n = (good (suc n) n (omega arith)).is

-- the digits that follow those of a number above 0
pub numeral-on : (n : ℕ) (cs : List ℕ) → 0 < n → AreDigits cs → numeral (read_on n cs) ≡ numeral n ++ cs
numeral-on n [] some all = sym (append-nil (numeral n))
numeral-on n (c ∷ cs) some all =
    let m = 10 * n + (c - 48) in
    let front : m / 10 ≡ n = omega (arith, all.0) in
    let last : 48 + m % 10 ≡ c = omega (arith, all.0) in
    let step : numeral m ≡ numeral n ++ c ∷ [] = numeral-more m (omega arith) ∙ ap (λ (k : ℕ). numeral k ++ (48 + m % 10) ∷ []) front
    ∙ ap (λ (k : ℕ). numeral n ++ k ∷ []) last in
    numeral-on m cs (omega arith) all.1 ∙ ap (λ (l : List ℕ). l ++ cs) step ∙ append_assoc (numeral n) (c ∷ []) cs

-- a number has one numeral
pub one_numeral : (ds : List ℕ) (n : ℕ) → IsNumeral ds n → ds ≡ numeral n
one_numeral [] n is = absurd (omega (arith, is.some))
one_numeral (c ∷ []) n is =
    let value : c - 48 ≡ n = omega (arith, is.value) in
    sym (ap numeral (sym value) ∙ numeral-one (c - 48) (omega (arith, is.digits.0)) ∙ ap (λ (k : ℕ). k ∷ []) (omega (arith, is.digits.0)))
one_numeral (c ∷ d ∷ ds) n is =
    let first : 48 < c = is.leading (omega arith) in
    let one : numeral (c - 48) ≡ c ∷ [] = numeral-one (c - 48) (omega (arith, is.digits.0)) ∙ ap (λ (k : ℕ). k ∷ []) (omega (arith, is.digits.0)) in
    let value : read_on (c - 48) (d ∷ ds) ≡ n = ap (λ (k : ℕ). read_on k (d ∷ ds)) (omega arith) ∙ is.value in
    sym (ap numeral (sym value) ∙ numeral-on (c - 48) (d ∷ ds) (omega arith) is.digits.1 ∙ ap (λ (l : List ℕ). l ++ d ∷ ds) one)

-- two numbers with the same numeral are equal
pub numeral_one : (m n : ℕ) → numeral m ≡ numeral n → m ≡ n
numeral_one m n e = sym (numeral_is m).value ∙ ap (read_on 0) e ∙ (numeral_is n).value

-- what follows a numeral: nothing, or a byte that is no digit
abbrev pub Ends : List ℕ → Type 0
Ends [] = Unit {0}
Ends (c ∷ cs) = c < 48

-- digits end at the first byte that is none
one_field : (xs ys r q : List ℕ) → AreDigits xs → AreDigits ys → Ends r → Ends q → xs ++ r ≡ ys ++ q → (xs ≡ ys) × (r ≡ q)
one_field [] [] r q dx dy er eq e = (refl, e)
one_field [] (y ∷ ys) [] q dx dy er eq e = absurd (no_more e)
  where
    no_more : [] ≡ y ∷ (ys ++ q) → ⊥
    no_more e = cc
one_field [] (y ∷ ys) (c ∷ r) q dx dy er eq e = let same : c ≡ y = cc in absurd (omega (arith, er, dy.0, same))
one_field (x ∷ xs) [] r [] dx dy er eq e = absurd (no_more e)
  where
    no_more : x ∷ (xs ++ r) ≡ [] → ⊥
    no_more e = cc
one_field (x ∷ xs) [] r (c ∷ q) dx dy er eq e = let same : x ≡ c = cc in absurd (omega (arith, eq, dx.0, same))
one_field (x ∷ xs) (y ∷ ys) r q dx dy er eq e =
    let heads : x ≡ y = cc in
    let tails : xs ++ r ≡ ys ++ q = cc in
    let rest = one_field xs ys r q dx.1 dy.1 er eq tails in (cc (heads, rest.0), rest.1)

-- a text that begins with a numeral has no byte below '0' first
pub first_digit : (n : ℕ) (r : List ℕ) → 48 ≤ get_or (numeral n ++ r) 0 0
first_digit n r = at (numeral n) (numeral_is n)
  where
    at : (ds : List ℕ) → IsNumeral ds n → 48 ≤ get_or (ds ++ r) 0 0
    at [] is = absurd (omega (arith, is.some))
    at (d ∷ ds) is = is.digits.0.0

-- a text splits in one way into a signed number and a rest that is empty or begins below '0'
pub one_signed : (a b : ℤ) (r q : List ℕ) → Ends r → Ends q → signed_numeral a ++ r ≡ signed_numeral b ++ q → (a ≡ b) × (r ≡ q)
one_signed (pos m) (pos n) r q er eq e = let f = one_field (numeral m) (numeral n) r q (numeral_is m).digits (numeral_is n).digits er eq e in
    (ap pos (numeral_one m n f.0), f.1)
one_signed (pos m) (negsuc n) r q er eq e = absurd (omega (arith, first_digit m r, ap (λ (l : List ℕ). get_or l 0 0) e))
one_signed (negsuc m) (pos n) r q er eq e = absurd (omega (arith, first_digit n q, ap (λ (l : List ℕ). get_or l 0 0) e))
one_signed (negsuc m) (negsuc n) r q er eq e =
    let tails : numeral (suc m) ++ r ≡ numeral (suc n) ++ q = cc in
    let f = one_field (numeral (suc m)) (numeral (suc n)) r q (numeral_is (suc m)).digits (numeral_is (suc n)).digits er eq tails in
    let same : suc m ≡ suc n = numeral_one (suc m) (suc n) f.0 in
    let less : m ≡ n = omega (arith, same) in (ap negsuc less, f.1)

-- a text of numbers is empty or begins with a byte below '0'
pub numbers-end : (ns : List ℤ) → Ends (numbers_text ns)
numbers-end [] = tt
numbers-end (n ∷ ns) = omega arith

-- a line of numbers has one reading
pub one_numbers : (ns ms : List ℤ) → numbers_text ns ≡ numbers_text ms → ns ≡ ms
one_numbers [] [] e = refl
one_numbers [] (m ∷ ms) e = cc
one_numbers (n ∷ ns) [] e = cc
one_numbers (n ∷ ns) (m ∷ ms) e =
    let tails : signed_numeral n ++ numbers_text ns ≡ signed_numeral m ++ numbers_text ms = cc in
    let f = one_signed n m (numbers_text ns) (numbers_text ms) (numbers-end ns) (numbers-end ms) tails in
    let rest = one_numbers ns ms f.1 in cc (f.0, rest)
