-- A signed number, from the natural number after its sign.
use Rattle.std.proofs.Common.{◌≡◌, ◌≢◌, ℕ, suc, zero, ◌+◌, ◌<◌, List, [], ◌∷◌, ◌++◌, length, get_or, drop, take-append-drop, sym, ap, subst, ◌∙◌, arith}
use Rattle.std.specs.Prelude.{ℤ, pos, negsuc}
use Rattle.line_format.specs.Numeral.{numeral, signed_numeral}
use Rattle.line_format.proofs.Numerals.{numeral_is, numeral_one, first_digit}
use Rattle.line_format.specs.Fields.{FieldEnds, IsField, IsSignedField}
use Rattle.line_format.proofs.Fronts.{one_front}

field_some : (text : List ℕ) (n stop : ℕ) → IsField text n stop → 0 < stop
field_some text n zero f = absurd (empty (numeral n) (numeral_is n).some f.spelled)
  where
    empty : (ds : List ℕ) → 0 < length ds → [] ≡ ds → ⊥
    empty [] some e = omega arith
    empty (d ∷ ds) some e = cc
field_some text n (suc stop) f = omega arith

-- the field of a natural number is the field of the same number with a sign
pub plain_field : (text : List ℕ) (n stop : ℕ) → IsField text n stop → IsSignedField text (pos n) stop
plain_field text n stop f = record { within = f.within; some = field_some text n stop f; spelled = f.spelled; ends = f.ends }

-- a minus before the field of a number above 0 makes a field of its opposite, one byte longer
pub minus_field : (rest : List ℕ) (n stop : ℕ) → IsField rest (suc n) stop → IsSignedField (45 ∷ rest) (negsuc n) (stop + 1)
minus_field rest n stop f =
    let more : suc stop ≡ stop + 1 = omega arith in
    subst (λ (s : ℕ). IsSignedField (45 ∷ rest) (negsuc n) s) more (record {
      within = omega (arith, f.within);
      some = omega arith;
      spelled =
          ap (λ (l : List ℕ). 45 ∷ l) f.spelled;
      ends = f.ends;
    })

-- a number without a minus
pub no_minus_text : (text : List ℕ) → get_or text 0 0 ≢ 45 → ((n : ℕ) (rest : List ℕ) → FieldEnds rest → text ≡ numeral n ++ rest → ⊥)
    → (z : ℤ) (rest : List ℕ) → FieldEnds rest → text ≡ signed_numeral z ++ rest → ⊥
no_minus_text text plain none (pos n) rest ends e = none n rest ends e
no_minus_text text plain none (negsuc n) rest ends e = plain (ap (λ (l : List ℕ). get_or l 0 0) e)

-- after a minus stands a number above 0
pub minus_text : (rest : List ℕ) → ((n : ℕ) (r : List ℕ) → FieldEnds r → 0 < n → rest ≡ numeral n ++ r → ⊥) → (z : ℤ) (r : List ℕ) → FieldEnds r
    → 45 ∷ rest ≡ signed_numeral z ++ r → ⊥
minus_text rest none (pos n) r ends e = omega (arith, first_digit n r, ap (λ (l : List ℕ). get_or l 0 0) e)
minus_text rest none (negsuc n) r ends e = none (suc n) r ends (omega arith) cc

-- a field that is read as 0 is no number above 0
pub zero_field : (rest : List ℕ) (stop : ℕ) → IsField rest 0 stop → (n : ℕ) (r : List ℕ) → FieldEnds r → 0 < n → rest ≡ numeral n ++ r → ⊥
zero_field rest stop f n r ends some e =
    let whole : numeral 0 ++ drop stop rest ≡ numeral n ++ r = ap (λ (l : List ℕ). l ++ drop stop rest) (sym f.spelled) ∙ take-append-drop stop rest ∙ e in
    let same = one_front (numeral 0) (numeral n) (drop stop rest) r (numeral_is 0).digits (numeral_is n).digits f.ends ends whole in
    let z : 0 ≡ n = numeral_one 0 n same in
    omega (arith, z, some)
