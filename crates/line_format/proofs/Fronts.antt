-- What digits at the start of a text say of the numeral there.
use Rattle.std.proofs.Common.{List, [], ap, arith, drop, get_or, inl, inr, length, length-append, length-take, refl, subst, suc, sym, take}
use Rattle.std.proofs.Common.{take-append-drop, zero, ℕ, ◌++◌, ◌<◌, ◌∙◌, ◌∷◌, ◌≡◌, ◌≢◌, ◌≤◌}
use Rattle.std.proofs.lemmas.Bool.{cases_eq, cases_lt}
use Rattle.line_format.specs.Numeral.{numeral}
use Rattle.wide_num.proofs.Decimal.{AreDigits, IsDigit, IsNumeral, read_on, read_on-take_le}
use Rattle.line_format.proofs.Numerals.{numeral_is, one_numeral}
use Rattle.line_format.specs.Fields.{FieldEnds, IsField, HasNoLeadingZero}

-- digits go no further than a field
within_field : (xs rest : List ℕ) (i : ℕ) → FieldEnds rest → AreDigits (take i (xs ++ rest)) → i ≤ length (xs ++ rest) → i ≤ length xs
within_field xs rest zero ends d le = omega arith
within_field [] [] (suc i) ends d le = absurd (omega (arith, le))
within_field [] (c ∷ rest) (suc i) ends d le = absurd (omega (arith, ends, d.0.0))
within_field (x ∷ xs) rest (suc i) ends d le = let r = within_field xs rest i ends d.1 (omega (arith, le)) in omega (arith, r)

digit_at : (xs rest : List ℕ) (i : ℕ) → AreDigits xs → i < length xs → IsDigit (get_or (xs ++ rest) i 0)
digit_at [] rest i d lt = absurd (omega arith)
digit_at (x ∷ xs) rest zero d lt = d.0
digit_at (x ∷ xs) rest (suc i) d lt = digit_at xs rest i d.1 (omega arith)

space_at : (xs rest : List ℕ) → FieldEnds rest → length xs < length (xs ++ rest) → get_or (xs ++ rest) (length xs) 0 ≡ 32
space_at [] [] ends lt = absurd (omega arith)
space_at [] (c ∷ rest) ends lt = ends
space_at (x ∷ xs) rest ends lt = space_at xs rest ends (omega arith)

-- a byte that is neither a digit nor a space ends no field
pub no_number_at : (text : List ℕ) (i : ℕ) → AreDigits (take i text) → i < length text → get_or text i 0 ≢ 32 → (IsDigit (get_or text i 0) → ⊥)
    → (n : ℕ) (rest : List ℕ) → FieldEnds rest → text ≡ numeral n ++ rest → ⊥
no_number_at text i d lt space digit n rest ends e =
    at (numeral n) (numeral_is n).digits e
  where
    at : (xs : List ℕ) → AreDigits xs → text ≡ xs ++ rest → ⊥
    at xs dx e =
        let le = within_field xs rest i ends (subst (λ (t : List ℕ). AreDigits (take i t)) e d) (omega (arith, lt, ap length e)) in
        elim (cases_lt i (length xs)) [
          | inl before ↦ digit (subst (λ (t : List ℕ). IsDigit (get_or t i 0)) (sym e) (digit_at xs rest i dx before))
          | inr here ↦ (let same : length xs ≡ i = omega (arith, here, le) in
              space (ap (λ (t : List ℕ). get_or t i 0) e ∙ ap (λ (x : ℕ). get_or (xs ++ rest) x 0) (sym same)
              ∙ space_at xs rest ends (omega (arith, lt, same, ap length e))))
        ]

first_of : (xs rest : List ℕ) → 0 < length xs → get_or (xs ++ rest) 0 0 ≡ get_or xs 0 0
first_of [] rest some = absurd (omega arith)
first_of (x ∷ xs) rest some = refl

-- a field where the digits stop has at least one, and no zero before others
pub no_leading_zero : (text : List ℕ) (stop : ℕ) → AreDigits (take stop text) → stop ≤ length text → FieldEnds (drop stop text) → (n : ℕ) (rest : List ℕ)
    → FieldEnds rest → text ≡ numeral n ++ rest → HasNoLeadingZero text stop
no_leading_zero text stop d le here n rest ends e =
    let is = numeral_is n in
    let low = within_field (numeral n) rest stop ends (subst (λ (t : List ℕ). AreDigits (take stop t)) e d) (omega (arith, le, ap length e)) in
    let first : get_or text 0 0 ≡ get_or (numeral n) 0 0 = ap (λ (t : List ℕ). get_or t 0 0) e ∙ first_of (numeral n) rest is.some in (
      elim (cases_lt 0 stop) [
        | inl some ↦ some
        | inr none ↦ absurd (let z : stop ≡ 0 = omega (arith, none) in stops text z (subst (λ (s : ℕ). FieldEnds (drop s text)) z here)
            (omega (arith, ap length e, length-append (numeral n) rest, is.some)) (subst (λ (c : ℕ). 48 ≤ c) (sym (first)) (digit_first (numeral n) is)))
      ],
      λ long zero_first. let l = is.leading (omega (arith, long, low)) in omega (arith, l, first, zero_first),
    )
  where
    digit_first : (ds : List ℕ) → IsNumeral ds n → 48 ≤ get_or ds 0 0
    digit_first [] is = absurd (omega (arith, is.some))
    digit_first (c ∷ ds) is = is.digits.0.0

    stops : (text : List ℕ) → stop ≡ 0 → FieldEnds text → 0 < length text → 48 ≤ get_or text 0 0 → ⊥
    stops [] z ends some high = omega (arith, some)
    stops (c ∷ text) z ends some high = omega (arith, ends, high)

-- the digits are a field
pub field_made : (text : List ℕ) (stop : ℕ) → AreDigits (take stop text) → stop ≤ length text → FieldEnds (drop stop text) → HasNoLeadingZero text stop
    → IsField text (read_on 0 (take stop text)) stop
field_made text stop d le ends lead = record {
  within = le;
  spelled = one_numeral (take stop text) (read_on 0 (take stop text)) (record {
    digits = d;
    some = omega (arith, length-take stop text, lead.0, le);
    leading = λ long. high (take stop text) d (omega (arith, lead.0, le, length-take stop text))
        (λ e. lead.1 (omega (arith, long, length-take stop text)) (sym (first text stop lead.0) ∙ e));
    value = refl;
  });
  ends = ends;
}
  where
    first : (text : List ℕ) (stop : ℕ) → 0 < stop → get_or (take stop text) 0 0 ≡ get_or text 0 0
    first text zero some = absurd (omega arith)
    first [] (suc stop) some = refl
    first (c ∷ text) (suc stop) some = refl

    high : (ds : List ℕ) → AreDigits ds → 0 < length ds → (get_or ds 0 0 ≡ 48 → ⊥) → 48 < get_or ds 0 0
    high [] d some other = absurd (omega (arith, some))
    high (c ∷ ds) d some other = omega (arith, d.0.0, other)

-- a field ends where a space stands
pub ends_at : (text : List ℕ) (i : ℕ) → i < length text → get_or text i 0 ≡ 32 → FieldEnds (drop i text)
ends_at [] i lt e = absurd (omega arith)
ends_at (c ∷ text) zero lt e = e
ends_at (c ∷ text) (suc i) lt e = ends_at text i (omega arith) e

-- and where a field ends within the text, a space stands
pub space_there : (text : List ℕ) (i : ℕ) → i < length text → FieldEnds (drop i text) → get_or text i 0 ≡ 32
space_there [] i lt ends = absurd (omega arith)
space_there (c ∷ text) zero lt ends = ends
space_there (c ∷ text) (suc i) lt ends = space_there text i (omega arith) ends

-- a field ends at the end of the text
pub ends_last : (text : List ℕ) (i : ℕ) → length text ≤ i → FieldEnds (drop i text)
ends_last [] zero le = tt
ends_last [] (suc i) le = tt
ends_last (c ∷ text) zero le = absurd (omega arith)
ends_last (c ∷ text) (suc i) le = ends_last text i (omega arith)

-- a text has one field at its start
pub one_front : (xs ys r q : List ℕ) → AreDigits xs → AreDigits ys → FieldEnds r → FieldEnds q → xs ++ r ≡ ys ++ q → xs ≡ ys
one_front [] [] r q dx dy er eq e = refl
one_front [] (y ∷ ys) [] q dx dy er eq e = cc
one_front [] (y ∷ ys) (c ∷ r) q dx dy er eq e = let same : c ≡ y = cc in absurd (omega (arith, er, dy.0.0, same))
one_front (x ∷ xs) [] r [] dx dy er eq e = cc
one_front (x ∷ xs) [] r (c ∷ q) dx dy er eq e = let same : x ≡ c = cc in absurd (omega (arith, eq, dx.0.0, same))
one_front (x ∷ xs) (y ∷ ys) r q dx dy er eq e =
    let heads : x ≡ y = cc in
    let tails : xs ++ r ≡ ys ++ q = cc in
    let rest = one_front xs ys r q dx.1 dy.1 er eq tails in cc (heads, rest)

take_front : (xs rest : List ℕ) (i : ℕ) → i ≤ length xs → take i (xs ++ rest) ≡ take i xs
take_front xs rest zero le = refl
take_front [] rest (suc i) le = absurd (omega arith)
take_front (x ∷ xs) rest (suc i) le = ap (λ (t : List ℕ). x ∷ t) (take_front xs rest i (omega arith))

field_parts : (text : List ℕ) (n s : ℕ) → IsField text n s → text ≡ numeral n ++ drop s text
field_parts text n s field = sym (take-append-drop s text) ∙ ap (λ (t : List ℕ). t ++ drop s text) field.spelled

-- digits at the start write no greater number than the field there
pub front_no_greater : (text : List ℕ) (i : ℕ) → AreDigits (take i text) → i ≤ length text → (n s : ℕ) → IsField text n s → read_on 0 (take i text) ≤ n
front_no_greater text i d le n s field =
    let e = field_parts text n s field in
    let low = within_field (numeral n) (drop s text) i field.ends (subst (λ (t : List ℕ). AreDigits (take i t)) e d) (omega (arith, le, ap length e)) in
    let same : read_on 0 (take i text) ≡ read_on 0 (take i (numeral n)) = ap (λ (t : List ℕ). read_on 0 (take i t)) e
    ∙ ap (read_on 0) (take_front (numeral n) (drop s text) i low) in
    omega (arith, same, read_on-take_le 0 i (numeral n), (numeral_is n).value)

-- where digits below a bound lead to no digit, and make no field, no number below the bound is a field
pub no_field_below : (most : ℕ) (text : List ℕ) (i : ℕ) → AreDigits (take i text) → i ≤ length text
    → (read_on 0 (take i text) < most → i < length text → IsDigit (get_or text i 0) → ⊥)
    → (FieldEnds (drop i text) → HasNoLeadingZero text i → ⊥)
    → (n s : ℕ) → IsField text n s → most ≤ n
no_field_below most text i d le stops fails n s field =
    elim (cases_lt (read_on 0 (take i text)) most) [
      | inl low ↦ absurd (elim (cases_lt i (length text)) [
        | inl inside ↦ elim (cases_eq (get_or text i 0) 32) [
          | inl space ↦ none (ends_at text i inside space)
          | inr other ↦ no_number_at text i d inside other (stops low inside) n (drop s text) field.ends e
        ]
        | inr end ↦ none (ends_last text i end)
      ])
      | inr high ↦ omega (arith, high, front_no_greater text i d le n s field)
    ]
  where
    e : text ≡ numeral n ++ drop s text
    e = field_parts text n s field

    none : FieldEnds (drop i text) → ⊥
    none ends = fails ends (no_leading_zero text i d le ends n (drop s text) field.ends e)
