-- The fields of a line, read from its start.
use Rattle.std.proofs.Common.{◌≡◌, ℕ, ◌≤◌, ◌<◌, ◌^◌, ◌-◌, List, [], ◌∷◌, ◌++◌, length, take, drop, refl, sym, ap, ◌∙◌, arith, append_assoc}
use Rattle.std.proofs.lemmas.List.{take-append-drop, take_all, length-drop}
use Rattle.std.specs.List.{AllByRecursion, All}
use Rattle.std.specs.Fmt.{decimal}
use Rattle.std.proofs.lemmas.List.Elements.{All-nil, All-cons, All-head, All-tail}
use Rattle.wide_num.proofs.Decimal.{decimal_one}
use Rattle.line_format.specs.Decimals.{decimals_text}
use Rattle.line_format.specs.Fields as line
use Rattle.line_format.proofs.Decimals.{decimal_numeral}
use Rattle.book_grammar.proofs.TextLaws.{numbers-push}
use Rattle.bid_book.specs.Stops.{AreNumbers, IsField}
use Rattle.line_format.proofs.DecimalFields.{decimals_stop, number_own, one_field}

-- what holds of each item by recursion holds at every place of the list
pub each_all : {X : Type 0} (P : X → Type 0) (xs : List X) → AllByRecursion P xs → All P xs
each_all P [] all = All-nil P
each_all P (x ∷ xs) all = All-cons P x xs all.0 (each_all P xs all.1)

-- what holds at every place of the list holds of each item by recursion
pub all_each : {X : Type 0} (P : X → Type 0) (xs : List X) → All P xs → AllByRecursion P xs
all_each P [] all = tt
all_each P (x ∷ xs) all = (All-head P x xs all, all_each P xs (All-tail P x xs all))

-- these numbers are read, and the rest spells those that follow
pub record GoesOn (had rest ns : List ℕ) : Type 0 where
  pub more : List ℕ
  pub whole : ns ≡ had ++ more
  pub small : AreNumbers more
  pub rest_is : rest ≡ decimals_text more

-- the first of the numbers that a text spells, and the others
pub record FirstNumber (field more ns : List ℕ) : Type 0 where
  pub number : ℕ
  pub later : List ℕ
  pub whole : ns ≡ number ∷ later
  pub small : number ≤ 2 ^ 42
  pub later_small : AreNumbers later
  pub field_is : field ≡ decimal number
  pub more_is : more ≡ decimals_text later

-- the first field of a text that spells numbers is the first of them, and what follows spells the others
pub first_number : (text field more ns : List ℕ) → IsField text field more → text ≡ decimals_text ns → AreNumbers ns → FirstNumber field more ns
first_number text field more [] is text_is small = let e : 32 ∷ field ++ more ≡ [] = sym is.spelled ∙ text_is in absurd (cc e)
first_number text field more (n ∷ ns) is text_is small =
    let e : 32 ∷ field ++ more ≡ 32 ∷ decimal n ++ decimals_text ns = sym is.spelled ∙ text_is in
    let tails : field ++ more ≡ decimal n ++ decimals_text ns = cc in
    let parts = one_field field (decimal n) more (decimals_text ns) is.own (number_own n (omega (arith, small.0))) is.stops (decimals_stop ns) tails in
    record { number = n; later = ns; whole = refl; small = small.0; later_small = small.1; field_is = parts.0; more_is = parts.1 }

-- after a field that spells n, n is read too, and the rest spells the numbers after it
pub goes_further : (had rest field more ns : List ℕ) (n : ℕ) → IsField rest field more → field ≡ decimal n → n ≤ 2 ^ 42 → GoesOn had rest ns
    → GoesOn (had ++ n ∷ []) more ns
goes_further had rest field more ns n is spelled small on =
    let first = first_number rest field more on.more is on.rest_is on.small in
    let same : first.number ≡ n = decimal_one first.number n (omega (arith, first.small)) (omega arith) (sym first.field_is ∙ spelled) in
    record {
      more = first.later;
      whole = on.whole ∙ ap (λ (l : List ℕ). had ++ l) (first.whole ∙ ap (λ (k : ℕ). k ∷ first.later) same) ∙ sym (append_assoc had (n ∷ []) first.later);
      small = first.later_small;
      rest_is = first.more_is;
    }

-- the text read so far, with one field more
pub spelled_further : (text had rest field more : List ℕ) (n : ℕ) → text ≡ decimals_text had ++ rest → IsField rest field more → field ≡ decimal n
    → text ≡ decimals_text (had ++ n ∷ []) ++ more
spelled_further text had rest field more n spelled is field_is =
    spelled ∙ ap (λ (l : List ℕ). decimals_text had ++ l) (is.spelled ∙ ap (λ (l : List ℕ). 32 ∷ l ++ more) field_is)
    ∙ sym (append_assoc (decimals_text had) (32 ∷ decimal n) more)
    ∙ ap (λ (l : List ℕ). l ++ more) (sym (numbers-push had n))

-- a text that isn't empty and doesn't begin with a space spells no numbers
pub not_spaced : (rest : List ℕ) (ns : List ℕ) → 0 < length rest → ((behind : List ℕ) → rest ≡ 32 ∷ behind → ⊥) → rest ≡ decimals_text ns → ⊥
not_spaced rest [] long other is = omega (arith, ap length is)
not_spaced rest (n ∷ ns) long other is = other (decimal n ++ decimals_text ns) is

-- a number at the start of what follows a space is the first field, and the rest follows it
pub short_found : (text behind : List ℕ) (n stop : ℕ) → text ≡ 32 ∷ behind → line.IsField behind n stop → n ≤ 2 ^ 42
    → IsField text (decimal n) (take (length behind - stop) (drop stop behind))
short_found text behind n stop is field small =
    let rest : take (length behind - stop) (drop stop behind) ≡ drop stop behind =
    take_all _ _ (omega (arith, length-drop stop behind)) in
    let spelled : take stop behind ≡ decimal n = field.spelled ∙ sym (decimal_numeral n (omega arith)) in
    let whole : behind ≡ decimal n ++ drop stop behind =
    sym (take-append-drop stop behind) ∙ ap (λ (l : List ℕ). l ++ drop stop behind) spelled in
    rw rest (record {
      spelled = is ∙ ap (λ (l : List ℕ). 32 ∷ l) whole;
      own = number_own n (omega arith);
      stops = field.ends;
    })
