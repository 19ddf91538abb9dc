-- The text of a log is read as its events.
use Rattle.std.proofs.Common.{List, None, Some, [], ap, append_assoc, arith, false, inl, inr, length, map, refl, subst, sym, ℕ, ◌++◌, ◌+◌, ◌<◌, ◌^◌}
use Rattle.std.proofs.Common.{◌∙◌, ◌∷◌, ◌≡◌, ◌≤◌}
use Rattle.std.specs.List.{AllByRecursion, list_any}
use Rattle.std.specs.Fmt.{decimal}
use Rattle.std.proofs.lemmas.Bool.{ne_eqb}
use Rattle.csv.specs.Machine.{next_record}
use Rattle.csv.specs.Reading.{default_config, records, records_from, strip_bom}
use Rattle.csv.specs.Writing.{default_writer, fields_text, is_blank, needs_byte, row_text}
use Rattle.csv.specs.declared.parser.State.TheVariants as st
use Rattle.csv.proofs.RoundTrip.{read-write-many}
use Rattle.limits.specs.declared.TheConstants.{MOST_RECORDS, MOST_STATED_COUNT}
use Rattle.book_grammar.specs.BookForm.{IsName, IsNameByte}
use Rattle.line_format.specs.Decimals.{decimals_text}
use Rattle.wide_num.proofs.Decimal.{AreDigits, numeral_decimal}
use Rattle.auction_rules.specs.Terms.{Terms}
use Rattle.auction_rules.specs.declared.Event.{Event}
use Rattle.auction_rules.specs.declared.Event.TheVariants.{Bid, Close, Draft, Drop, Submit}
use Rattle.log_file.specs.LogForm.{States, counts_text, four}
use Rattle.log_file.specs.LogReading.{AllState, AreLog, log_records}
use Rattle.log_file.specs.LogText.{IsStatable, event_fields, event_text, fields_behind, log_text, record_text}
use Rattle.log_file.proofs.RecordLaws.{records-end, records-more}

-- ---- fields without marks

-- a byte that is no mark of the format
abbrev IsPlain : ℕ → Type 0
IsPlain b = needs_byte default_writer b ≡ false

plain-from : (b : ℕ) → (b ≡ 44 → ⊥) → (b ≡ 34 → ⊥) → (b ≡ 13 → ⊥) → (b ≡ 10 → ⊥) → IsPlain b
plain-from b comma quote return feed = rw (ne_eqb b 44 comma, ne_eqb b 34 quote, ne_eqb b 13 return, ne_eqb b 10 feed) refl

-- a byte above the quotation mark and the comma
plain-above : (b : ℕ) → 44 < b → IsPlain b
plain-above b high = plain-from b (λ e. omega (arith, e, high)) (λ e. omega (arith, e, high)) (λ e. omega (arith, e, high)) (λ e. omega (arith, e, high))

-- a field that is written without quotation marks
abbrev IsPlainField : List ℕ → Type 0
IsPlainField f = list_any (needs_byte default_writer) f ≡ false

plain-field : (f : List ℕ) → AllByRecursion IsPlain f → IsPlainField f
plain-field [] all = refl
plain-field (b ∷ f) all = rw (all.0, plain-field f all.1) refl

both-plain : (f g : List ℕ) → AllByRecursion IsPlain f → AllByRecursion IsPlain g → AllByRecursion IsPlain (f ++ g)
both-plain [] g first second = second
both-plain (b ∷ f) g first second = (first.0, both-plain f g first.1 second)

digits-plain : (ds : List ℕ) → AreDigits ds → AllByRecursion IsPlain ds
digits-plain [] all = tt
digits-plain (d ∷ ds) all = (plain-above d (omega (arith, all.0)), digits-plain ds all.1)

number-plain : (n : ℕ) → n ≤ 10 ^ 18 → AllByRecursion IsPlain (decimal n)
number-plain n low = digits-plain (decimal n) (numeral_decimal n (omega (arith, low))).digits

byte-plain : (c : ℕ) → IsNameByte c → IsPlain c
byte-plain c (inl letter) = plain-above c (omega (arith, letter))
byte-plain c (inr (inl digit)) = plain-above c (omega (arith, digit))
byte-plain c (inr (inr line)) = plain-above c (omega (arith, line))

bytes-plain : (cs : List ℕ) → AllByRecursion IsNameByte cs → AllByRecursion IsPlain cs
bytes-plain [] all = tt
bytes-plain (c ∷ cs) all = (byte-plain c all.0, bytes-plain cs all.1)

name-plain : (name : List ℕ) → IsName name → IsPlainField name
name-plain [] is = absurd is
name-plain (c ∷ cs) is = plain-field (c ∷ cs) (plain-above c (omega (arith, is.0)), bytes-plain cs is.1)

space-plain : IsPlain 32
space-plain = refl

decimals-plain : (ns : List ℕ) → AllByRecursion (λ n. n ≤ MOST_STATED_COUNT) ns → AllByRecursion IsPlain (decimals_text ns)
decimals-plain [] all = tt
decimals-plain (n ∷ ns) all = (space-plain, both-plain (decimal n) (decimals_text ns) (number-plain n (omega (arith, all.0))) (decimals-plain ns all.1))

counts-plain : (ns : List ℕ) → AllByRecursion (λ n. n ≤ MOST_STATED_COUNT) ns → IsPlainField (counts_text ns)
counts-plain [] all = refl
counts-plain (n ∷ ns) all =
    plain-field (counts_text (n ∷ ns))
    (both-plain (decimal n) (decimals_text ns) (number-plain n (omega (arith, all.0))) (decimals-plain ns all.1))

-- ---- one record

text-behind : (fs : List (List ℕ)) → AllByRecursion IsPlainField fs → fields_text default_writer fs ++ 10 ∷ [] ≡ fields_behind fs
unfolding fields_text
text-behind [] all = refl
text-behind (f ∷ fs) all =
    rw all.0 (ap (λ (t : List ℕ). 44 ∷ t)
    (append_assoc f (fields_text default_writer fs) (10 ∷ []) ∙ ap (λ (t : List ℕ). f ++ t) (text-behind fs all.1)))

-- fields without marks are written as they are
row-is : (x y : List ℕ) (ys : List (List ℕ)) → IsPlainField x → AllByRecursion IsPlainField (y ∷ ys)
    → row_text default_writer (x ∷ y ∷ ys) ≡ record_text (x ∷ y ∷ ys)
unfolding is_blank
row-is x y ys first all =
    rw first (append_assoc x (fields_text default_writer (y ∷ ys)) (10 ∷ []) ∙ ap (λ (t : List ℕ). x ++ t) (text-behind (y ∷ ys) all))

-- and read back
row-read : (a b c d tail : List ℕ) → AllByRecursion IsPlainField (four a b c d)
    → next_record default_config st.StartRecord [] [] (record_text (four a b c d) ++ tail) ≡ Some (four a b c d, st.StartRecord, tail)
row-read a b c d tail all =
    subst (λ (t : List ℕ). next_record default_config st.StartRecord [] [] (t ++ tail) ≡ Some (four a b c d, st.StartRecord, tail))
    (row-is a b (c ∷ d ∷ []) all.0 all.1) (read-write-many a b (c ∷ d ∷ []) tail)

-- ---- all records

module _ (terms : Terms) (name : ℕ → List ℕ) where
  fields-plain : (e : Event) → IsStatable terms name e → AllByRecursion IsPlainField (event_fields name e)
  fields-plain (Bid k lots) is = (refl, (name-plain (name k) is.0.0, (counts-plain lots is.1.1, (refl, tt))))
  fields-plain (Draft k lots amount) is =
      (refl, (name-plain (name k) is.0.0, (counts-plain lots is.1.1, (plain-field (decimal amount) (number-plain amount (omega (arith, is.2))), tt))))
  fields-plain (Drop k lots) is = (refl, (name-plain (name k) is.0.0, (counts-plain lots is.1.1, (refl, tt))))
  fields-plain (Submit k) is = (refl, (name-plain (name k) is.0, (refl, (refl, tt))))
  fields-plain Close is = (refl, (refl, (refl, (refl, tt))))

  event-read : (e : Event) (tail : List ℕ) → IsStatable terms name e
      → next_record default_config st.StartRecord [] [] (event_text name e ++ tail) ≡ Some (event_fields name e, st.StartRecord, tail)
  event-read (Bid k lots) tail is = row-read _ _ _ _ tail (fields-plain (Bid k lots) is)
  event-read (Draft k lots amount) tail is = row-read _ _ _ _ tail (fields-plain (Draft k lots amount) is)
  event-read (Drop k lots) tail is = row-read _ _ _ _ tail (fields-plain (Drop k lots) is)
  event-read (Submit k) tail is = row-read _ _ _ _ tail (fields-plain (Submit k) is)
  event-read Close tail is = row-read _ _ _ _ tail (fields-plain Close is)

  none-left : next_record default_config st.StartRecord [] [] [] ≡ None
  unfolding next_record
  none-left = refl

  -- the records of the text are those of the events
  rows-are : (es : List Event) (k : ℕ) → AllByRecursion (IsStatable terms name) es → length (log_text name es) < k
      → records_from default_config k st.StartRecord (log_text name es) ≡ map (event_fields name) es
  rows-are [] k all room = records-end k st.StartRecord [] room none-left
  rows-are (e ∷ es) k all room =
      let (n, left, between, more) = records-more k st.StartRecord (log_text name (e ∷ es)) (event_fields name e, st.StartRecord, log_text name es) room refl
      (event-read e (log_text name es) all.0) in
      more ∙ ap (λ (rows : List (List (List ℕ))). event_fields name e ∷ rows) (rows-are es n all.1 left)

  -- the text begins with no byte order mark
  no-mark : (es : List Event) → strip_bom (log_text name es) ≡ log_text name es
  unfolding strip_bom
  no-mark [] = refl
  no-mark (Bid k lots ∷ es) = refl
  no-mark (Draft k lots amount ∷ es) = refl
  no-mark (Drop k lots ∷ es) = refl
  no-mark (Submit k ∷ es) = refl
  no-mark (Close ∷ es) = refl

  states-event : (e : Event) → IsStatable terms name e → States terms (event_fields name e) e
  states-event (Bid k lots) is = (name k, is.0, is.1, refl)
  states-event (Draft k lots amount) is = (name k, is.0, is.1, is.2, refl)
  states-event (Drop k lots) is = (name k, is.0, is.1, refl)
  states-event (Submit k) is = (name k, is, refl)
  states-event Close is = refl

  all-state : (es : List Event) → AllByRecursion (IsStatable terms name) es → AllState terms (map (event_fields name) es) es
  all-state [] all = tt
  all-state (e ∷ es) all = (states-event e all.0, all-state es all.1)

  -- the text of events that can be stated is a log of them
  pub written-log : (es : List Event) → AllByRecursion (IsStatable terms name) es → length es ≤ MOST_RECORDS → AreLog terms (log_records (log_text name es)) es
  written-log es all few =
      let rows : log_records (log_text name es) ≡ map (event_fields name) es =
      ap (records default_config) (no-mark es) ∙ rows-are es (length (log_text name es) + 1) all (omega arith) in
      (subst (λ (rows : List (List (List ℕ))). AllState terms rows es) (sym rows) (all-state es all), few)
