-- How far a text is read.
use Rattle.std.proofs.Common.{◌≡◌, ◌⊎◌, ◌<◌, ◌≤◌, ◌+◌, ◌-◌, ℕ, zero, suc, List, [], ◌∷◌, ◌++◌, length, take, drop, take-append-drop, get_or, Bool, true, false, Some, refl, sym, ap, subst, ◌∙◌, inl, inr, arith, append_assoc, length-append}
use Rattle.std.proofs.lemmas.Bool.{cases_Bool, false≢true}
use Rattle.std.proofs.lemmas.List.{append-nil, length-drop, take_all}
use Rattle.csv.specs.Machine.{Read, ends_at_end, field_after, fields_after, is_end, next_record, step}
use Rattle.csv.specs.Reading.{default_config, is_bom, records, records_from, records_next, strip_bom}
use Rattle.csv.specs.declared.parser.State.{State}
use Rattle.csv.specs.declared.parser.State.TheVariants as st
use Rattle.csv.specs.declared.parser.Action.{Action}
use Rattle.csv.specs.declared.parser.Action.TheVariants as act
use Rattle.log_file.specs.WideRecords.{At, Ends, ReadsAlike, SameToWide, count_after}
use Rattle.log_file.specs.declared.wide.Place.{Place}
use Rattle.log_file.specs.declared.wide.Place.TheVariants.{Between}
use Rattle.log_file.specs.declared.wide.Ended.{Ended}
use Rattle.log_file.specs.declared.wide.Ended.TheVariants.{Nothing, Field, Record}

abbrev pub Fields : Type 0
Fields = List (List ℕ)

-- whether a reader in this state is inside a record
abbrev pub is_inside : State → Bool
is_inside st.StartRecord = false
is_inside st.AfterCr = false
is_inside st.InComment = false
is_inside st.StartField = true
is_inside st.InField = true
is_inside st.InQuoted = true
is_inside st.AfterQuote = true
is_inside st.InEscape = true

-- inside a record it stays there until the record ends
stays_inside : (s : State) (c : ℕ) → is_inside s ≡ true → is_end (step default_config s c).1 ≡ false → is_inside (step default_config s c).0 ≡ true
stays_inside st.StartRecord c inside going = grind arith
stays_inside st.StartField c inside going = grind arith
stays_inside st.InField c inside going = grind arith
stays_inside st.InQuoted c inside going = grind arith
stays_inside st.InEscape c inside going = grind arith
stays_inside st.AfterQuote c inside going = grind arith
stays_inside st.InComment c inside going = grind arith
stays_inside st.AfterCr c inside going = grind arith

-- a byte that ends a field leads inside
field_inside : (s : State) (c : ℕ) → (step default_config s c).1 ≡ act.EndField → is_inside (step default_config s c).0 ≡ true
field_inside st.StartRecord c ends = grind arith
field_inside st.StartField c ends = grind arith
field_inside st.InField c ends = grind arith
field_inside st.InQuoted c ends = grind arith
field_inside st.InEscape c ends = grind arith
field_inside st.AfterQuote c ends = grind arith
field_inside st.InComment c ends = grind arith
field_inside st.AfterCr c ends = grind arith

inside_ends : (s : State) → is_inside s ≡ true → ends_at_end s ≡ true
inside_ends st.StartRecord inside = absurd (false≢true inside)
inside_ends st.StartField inside = refl
inside_ends st.InField inside = refl
inside_ends st.InQuoted inside = refl
inside_ends st.InEscape inside = refl
inside_ends st.AfterQuote inside = refl
inside_ends st.InComment inside = absurd (false≢true inside)
inside_ends st.AfterCr inside = absurd (false≢true inside)

-- an action never takes a field away
no_fewer : (a : Action) (fields : Fields) (field : List ℕ) → length fields ≤ length (fields_after a fields field)
no_fewer act.Skip fields field = omega arith
no_fewer act.Copy fields field = omega arith
no_fewer act.EndField fields field = omega (arith, length-append fields (field ∷ []))
no_fewer act.EndRecord fields field = omega (arith, length-append fields (field ∷ []))

one_more : (a : Action) (fields : Fields) (field : List ℕ) → is_end a ≡ true → length fields < length (fields_after a fields field)
one_more act.Skip fields field ends = absurd (false≢true ends)
one_more act.Copy fields field ends = absurd (false≢true ends)
one_more act.EndField fields field ends = absurd (false≢true ends)
one_more act.EndRecord fields field ends = omega (arith, length-append fields (field ∷ []))

-- inside a record a text has the rest of it, whatever follows, and the record has one field more at least
whole_record : (s : State) (fields : Fields) (field xs : List ℕ) → is_inside s ≡ true
    → (q : Read) × (next_record default_config s fields field xs ≡ Some q) × (length fields < length q.0)
unfolding next_record
whole_record s fields field [] inside =
    ((fields ++ (field ∷ []), st.StartRecord, []), rw (inside_ends s inside) refl, omega (arith, length-append fields (field ∷ [])))
whole_record s fields field (c ∷ xs) inside =
    elim (cases_Bool (is_end (step default_config s c).1)) [
      | inl done ↦
          ((fields_after (step default_config s c).1 fields field, (step default_config s c).0, xs), rw done refl, one_more (step default_config s c).1 fields field done)
      | inr going ↦
          let later = whole_record (step default_config s c).0 (fields_after (step default_config s c).1 fields field)
          (field_after (step default_config s c).1 c field) xs (stays_inside s c inside going) in
          let fewer = no_fewer (step default_config s c).1 fields field in
          (later.0, rw going later.1, omega (arith, later.2, fewer))
    ]

-- the records from the middle of one
abbrev pub rows_at : ℕ → State → Fields → List ℕ → List ℕ → List Fields
rows_at n s fields field xs = records_next (records_from default_config n) (next_record default_config s fields field xs)

-- Before this place a reader has taken these records and these fields of the next one, whatever follows.
pub record IsScanned (text : List ℕ) (place : Place) (count : ℕ) : Type 0 where
  pub before : List Fields
  pub state : State
  pub fields : Fields
  pub field : List ℕ
  pub at : At place state
  pub counted : length fields ≡ count
  pub inside : (is_inside state ≡ true) ⊎ (fields ≡ [])
  pub goes : (xs : List ℕ) → (n : ℕ) × (length xs ≤ n) × (records default_config (text ++ xs) ≡ before ++ rows_at n state fields field xs)

-- a byte that ends no record
rows-go : (n : ℕ) (s : State) (fields : Fields) (field : List ℕ) (c : ℕ) (xs : List ℕ) → is_end (step default_config s c).1 ≡ false
    → rows_at n s fields field (c ∷ xs)
    ≡ rows_at n (step default_config s c).0 (fields_after (step default_config s c).1 fields field) (field_after (step default_config s c).1 c field) xs
unfolding next_record
rows-go n s fields field c xs going = rw going refl

-- a byte that ends one
rows-end : (n : ℕ) (s : State) (fields : Fields) (field : List ℕ) (c : ℕ) (xs : List ℕ) → (step default_config s c).1 ≡ act.EndRecord → length (c ∷ xs) ≤ n
    → (m : ℕ) × (length xs ≤ m) × (rows_at n s fields field (c ∷ xs) ≡ (fields ++ (field ∷ [])) ∷ rows_at m (step default_config s c).0 [] [] xs)
unfolding next_record records_from
rows-end zero s fields field c xs ends room = absurd (omega (arith, room))
rows-end (suc m) s fields field c xs ends room = (m, omega (arith, room), rw ends refl)

-- the end of the text, inside a record
rows-last : (n : ℕ) (s : State) (fields : Fields) (field : List ℕ) → is_inside s ≡ true → rows_at n s fields field [] ≡ (fields ++ (field ∷ [])) ∷ []
unfolding next_record records_from
rows-last zero s fields field inside = rw (inside_ends s inside) refl
rows-last (suc n) s fields field inside = rw (inside_ends s inside) refl

-- before the first byte
first-rows : (xs : List ℕ) → records default_config xs ≡ rows_at (length xs) st.StartRecord [] [] xs
unfolding records_from
first-rows xs = let more : length xs + 1 ≡ suc (length xs) = omega arith in ap (λ (n : ℕ). records_from default_config n st.StartRecord xs) more

pub scan-start : IsScanned [] Between 0
scan-start = record {
  before = [];
  state = st.StartRecord;
  fields = [];
  field = [];
  at = inl refl;
  counted = refl;
  inside = inr refl;
  goes = λ xs. (length xs, omega arith, first-rows xs);
}

-- how many fields have ended after a byte that ends no record
counted_after : (what : Ended) (a : Action) (fields : Fields) (field : List ℕ) (count : ℕ) → Ends what a → is_end a ≡ false → length fields ≡ count
    → length (fields_after a fields field) ≡ count_after what count
counted_after Nothing act.Skip fields field count does going counted = counted
counted_after Nothing act.Copy fields field count does going counted = counted
counted_after Nothing act.EndField fields field count does going counted = elim does [ inl is ↦ cc is | inr is ↦ cc is ]
counted_after Nothing act.EndRecord fields field count does going counted = absurd (false≢true (sym going))
counted_after Field act.EndField fields field count does going counted = omega (arith, counted, length-append fields (field ∷ []))
counted_after Field act.Skip fields field count does going counted = cc does
counted_after Field act.Copy fields field count does going counted = cc does
counted_after Field act.EndRecord fields field count does going counted = absurd (false≢true (sym going))
counted_after Record act.Skip fields field count does going counted = cc does
counted_after Record act.Copy fields field count does going counted = cc does
counted_after Record act.EndField fields field count does going counted = cc does
counted_after Record act.EndRecord fields field count does going counted = absurd (false≢true (sym going))

-- a field has ended inside a record
fields_inside : (s : State) (c : ℕ) (fields : Fields) (field : List ℕ) → is_end (step default_config s c).1 ≡ false
    → (is_inside s ≡ true) ⊎ (fields ≡ [])
    → (a : Action) → (step default_config s c).1 ≡ a → (is_inside (step default_config s c).0 ≡ true) ⊎ (fields_after a fields field ≡ [])
fields_inside s c fields field going (inl inside) a is = inl (stays_inside s c inside going)
fields_inside s c fields field going (inr none) act.Skip is = inr none
fields_inside s c fields field going (inr none) act.Copy is = inr none
fields_inside s c fields field going (inr none) act.EndField is = inl (field_inside s c is)
fields_inside s c fields field going (inr none) act.EndRecord is = absurd (false≢true (sym going ∙ ap is_end is))

appended : (text xs : List ℕ) (c : ℕ) → records default_config ((text ++ (c ∷ [])) ++ xs) ≡ records default_config (text ++ (c ∷ xs))
appended text xs c = ap (records default_config) (append_assoc text (c ∷ []) xs)

-- one byte more, inside a record or between two
scan-inside : (text : List ℕ) (c : ℕ) (place later : Place) (what : Ended) (count : ℕ) (scanned : IsScanned text place count)
    → At later (step default_config scanned.state c).0 → Ends what (step default_config scanned.state c).1
    → is_end (step default_config scanned.state c).1 ≡ false
    → IsScanned (text ++ (c ∷ [])) later (count_after what count)
scan-inside text c place later what count scanned at does going = record {
  before = scanned.before;
  state = (step default_config scanned.state c).0;
  fields = fields_after (step default_config scanned.state c).1 scanned.fields scanned.field;
  field = field_after (step default_config scanned.state c).1 c scanned.field;
  at = at;
  counted = counted_after what (step default_config scanned.state c).1 scanned.fields scanned.field count does going scanned.counted;
  inside = fields_inside scanned.state c scanned.fields scanned.field going scanned.inside (step default_config scanned.state c).1 refl;
  goes = λ xs.
      let g = scanned.goes (c ∷ xs) in (
        g.0,
        omega (arith, g.1),
        appended text xs c ∙ g.2 ∙ ap (λ (rows : List Fields). scanned.before ++ rows) (rows-go g.0 scanned.state scanned.fields scanned.field c xs going),
      );
}

-- the byte that ends a record
scan-end : (text : List ℕ) (c : ℕ) (place later : Place) (count : ℕ) (scanned : IsScanned text place count)
    → At later (step default_config scanned.state c).0 → (step default_config scanned.state c).1 ≡ act.EndRecord
    → IsScanned (text ++ (c ∷ [])) later 0
scan-end text c place later count scanned at ends = record {
  before = scanned.before ++ ((scanned.fields ++ (scanned.field ∷ [])) ∷ []);
  state = (step default_config scanned.state c).0;
  fields = [];
  field = [];
  at = at;
  counted = refl;
  inside = inr refl;
  goes = λ xs.
      let g = scanned.goes (c ∷ xs) in
      let e = rows-end g.0 scanned.state scanned.fields scanned.field c xs ends g.1 in (
        e.0,
        e.1,
        appended text xs c ∙ g.2 ∙ ap (λ (rows : List Fields). scanned.before ++ rows) e.2
            ∙ sym (append_assoc scanned.before ((scanned.fields ++ (scanned.field ∷ [])) ∷ []) (rows_at e.0 (step default_config scanned.state c).0 [] [] xs)),
      );
}

not_end : (what : Ended) (a : Action) → Ends what a → (a ≡ act.EndRecord × what ≡ Record) ⊎ (is_end a ≡ false)
not_end Nothing a does = elim does [ inl is ↦ inr (ap is_end is) | inr is ↦ inr (ap is_end is) ]
not_end Field a does = inr (ap is_end does)
not_end Record a does = inl (does, refl)

-- one byte more
pub scan-next : (text : List ℕ) (c : ℕ) (place later : Place) (what : Ended) (count : ℕ) → IsScanned text place count
    → ((s : State) → At place s → At later (step default_config s c).0 × Ends what (step default_config s c).1)
    → IsScanned (text ++ (c ∷ [])) later (count_after what count)
scan-next text c place later what count scanned effect =
    let told = effect scanned.state scanned.at in
    elim (not_end what (step default_config scanned.state c).1 told.1) [
      | inl ends ↦
          subst (λ (w : Ended). IsScanned (text ++ (c ∷ [])) later (count_after w count)) (sym ends.1) (scan-end text c place later count scanned told.0 ends.0)
      | inr going ↦ scan-inside text c place later what count scanned told.0 told.1 going
    ]

not_none : (s : State) (fields : Fields) → (is_inside s ≡ true) ⊎ (fields ≡ []) → length fields ≡ 4 → is_inside s ≡ true
not_none s fields (inl inside) four = inside
not_none s fields (inr none) four = absurd (omega (arith, four, ap length none))

-- what is cut after a fourth field that has ended
pub scan-found : (text rest : List ℕ) (place : Place) → IsScanned text place 4 → SameToWide (records default_config text) (records default_config (text ++ rest))
scan-found text rest place scanned =
    let inside = not_none scanned.state scanned.fields scanned.inside scanned.counted in
    let none = scanned.goes [] in
    let g = scanned.goes rest in
    let q = whole_record scanned.state scanned.fields scanned.field rest inside in record {
      before = scanned.before;
      first = scanned.fields ++ (scanned.field ∷ []);
      other = q.0.0;
      later = records_from default_config g.0 q.0.1 q.0.2;
      cut_is = ap (records default_config) (sym (append-nil text)) ∙ none.2
          ∙ ap (λ (rows : List Fields). scanned.before ++ rows) (rows-last none.0 scanned.state scanned.fields scanned.field inside);
      whole_is = g.2 ∙ ap (λ (rows : List Fields). scanned.before ++ rows) (ap (records_next (records_from default_config g.0)) q.1);
      first_wide = omega (arith, scanned.counted, length-append scanned.fields (scanned.field ∷ []));
      other_wide = omega (arith, scanned.counted, q.2);
    }

take-suc : (xs : List ℕ) (i : ℕ) → i < length xs → take (suc i) xs ≡ take i xs ++ (get_or xs i 0 ∷ [])
take-suc [] i below = absurd (omega (arith, below))
take-suc (x ∷ xs) zero below = refl
take-suc (x ∷ xs) (suc i) below = ap (λ (l : List ℕ). x ∷ l) (take-suc xs i (omega (arith, below)))

-- one byte of the text more
pub scan-more : (text : List ℕ) (i : ℕ) (place later : Place) (what : Ended) (count ended : ℕ) → i < length text → IsScanned (take i text) place count
    → ((s : State) → At place s → At later (step default_config s (get_or text i 0)).0 × Ends what (step default_config s (get_or text i 0)).1)
    → ended ≡ count_after what count
    → IsScanned (take (i + 1) text) later ended
scan-more text i place later what count ended below scanned effect is =
    let more : i + 1 ≡ suc i = omega arith in
    let taken = ap (λ (n : ℕ). take n text) more ∙ take-suc text i below in
    subst (λ (l : List ℕ). IsScanned l later ended) (sym taken)
    (subst (IsScanned (take i text ++ (get_or text i 0 ∷ [])) later) (sym is) (scan-next (take i text) (get_or text i 0) place later what count scanned effect))

-- the text is cut where a fourth field has ended
pub cut-found : (text : List ℕ) (k ended : ℕ) (place : Place) → IsScanned (take k text) place ended → ended ≡ 4
    → ReadsAlike (records default_config (take k text)) (records default_config text)
cut-found text k ended place scanned four =
    inr (subst (λ (l : List ℕ). SameToWide (records default_config (take k text)) (records default_config l)) (take-append-drop k text)
    (scan-found (take k text) (drop k text) place (subst (IsScanned (take k text) place) four scanned)))

-- ---- the byte order mark

mark-true : (a b c : ℕ) (rest : List ℕ) → is_bom a b c ≡ true → strip_bom (a ∷ b ∷ c ∷ rest) ≡ rest
unfolding strip_bom
mark-true a b c rest is = rw is refl

mark-false : (a b c : ℕ) (rest : List ℕ) → is_bom a b c ≡ false → strip_bom (a ∷ b ∷ c ∷ rest) ≡ a ∷ b ∷ c ∷ rest
unfolding strip_bom
mark-false a b c rest is = rw is refl

-- a text that begins with the mark
pub mark-behind : (xs : List ℕ) → 3 ≤ length xs → is_bom (get_or xs 0 0) (get_or xs 1 0) (get_or xs 2 0) ≡ true → strip_bom xs ≡ drop 3 xs
mark-behind [] long is = absurd (omega (arith, long))
mark-behind (a ∷ []) long is = absurd (omega (arith, long))
mark-behind (a ∷ b ∷ []) long is = absurd (omega (arith, long))
mark-behind (a ∷ b ∷ c ∷ rest) long is = mark-true a b c rest is

kept-mark : (xs : List ℕ) → 3 ≤ length xs → is_bom (get_or xs 0 0) (get_or xs 1 0) (get_or xs 2 0) ≡ true
    → (k : ℕ) → strip_bom (take (suc (suc (suc k))) xs) ≡ take k (drop 3 xs)
kept-mark [] long is k = absurd (omega (arith, long))
kept-mark (a ∷ []) long is k = absurd (omega (arith, long))
kept-mark (a ∷ b ∷ []) long is k = absurd (omega (arith, long))
kept-mark (a ∷ b ∷ c ∷ rest) long is k = mark-true a b c (take k rest) is

pub mark-kept : (xs : List ℕ) → 3 ≤ length xs → is_bom (get_or xs 0 0) (get_or xs 1 0) (get_or xs 2 0) ≡ true
    → (k : ℕ) → strip_bom (take (3 + k) xs) ≡ take k (drop 3 xs)
mark-kept xs long is k =
    let more : 3 + k ≡ suc (suc (suc k)) = omega arith in ap (λ (n : ℕ). strip_bom (take n xs)) more ∙ kept-mark xs long is k

-- a text that doesn't
short-mark : (xs : List ℕ) → length xs < 3 → strip_bom xs ≡ xs
unfolding strip_bom
short-mark [] short = refl
short-mark (a ∷ []) short = refl
short-mark (a ∷ b ∷ []) short = refl
short-mark (a ∷ b ∷ c ∷ rest) short = absurd (omega (arith, short))

still-none : (xs : List ℕ) → (length xs < 3) ⊎ (is_bom (get_or xs 0 0) (get_or xs 1 0) (get_or xs 2 0) ≡ false) → (k : ℕ)
    → strip_bom (take k xs) ≡ take k xs
unfolding strip_bom
still-none [] none zero = refl
still-none [] none (suc k) = refl
still-none (a ∷ xs) none zero = refl
still-none (a ∷ []) none (suc zero) = refl
still-none (a ∷ []) none (suc (suc k)) = refl
still-none (a ∷ b ∷ xs) none (suc zero) = refl
still-none (a ∷ b ∷ []) none (suc (suc zero)) = refl
still-none (a ∷ b ∷ []) none (suc (suc (suc k))) = refl
still-none (a ∷ b ∷ c ∷ rest) none (suc (suc zero)) = refl
still-none (a ∷ b ∷ c ∷ rest) (inl short) (suc (suc (suc k))) = absurd (omega (arith, short))
still-none (a ∷ b ∷ c ∷ rest) (inr none) (suc (suc (suc k))) = mark-false a b c (take k rest) none

pub no-mark : (xs : List ℕ) → (length xs < 3) ⊎ (is_bom (get_or xs 0 0) (get_or xs 1 0) (get_or xs 2 0) ≡ false) → (k : ℕ)
    → strip_bom (take (0 + k) xs) ≡ take k xs
no-mark xs none k = let same : 0 + k ≡ k = omega arith in ap (λ (n : ℕ). strip_bom (take n xs)) same ∙ still-none xs none k

pub no-mark-whole : (xs : List ℕ) → (length xs < 3) ⊎ (is_bom (get_or xs 0 0) (get_or xs 1 0) (get_or xs 2 0) ≡ false) → strip_bom xs ≡ xs
no-mark-whole xs (inl short) = short-mark xs short
no-mark-whole [] (inr none) = short-mark [] (omega arith)
no-mark-whole (a ∷ []) (inr none) = short-mark (a ∷ []) (omega arith)
no-mark-whole (a ∷ b ∷ []) (inr none) = short-mark (a ∷ b ∷ []) (omega arith)
no-mark-whole (a ∷ b ∷ c ∷ rest) (inr none) = mark-false a b c rest none

-- after the mark, and the same with it
pub with-mark : (xs : List ℕ) (mark k : ℕ) → strip_bom xs ≡ drop mark xs → strip_bom (take (mark + k) xs) ≡ take k (drop mark xs)
    → ReadsAlike (records default_config (take k (take (length xs - mark) (drop mark xs)))) (records default_config (take (length xs - mark) (drop mark xs)))
    → ReadsAlike (records default_config (strip_bom (take (mark + k) xs))) (records default_config (strip_bom xs))
with-mark xs mark k whole cut alike =
    let all = take_all (length xs - mark) (drop mark xs) (omega (arith, length-drop mark xs)) in
    let behind = subst (λ (l : List ℕ). ReadsAlike (records default_config (take k l)) (records default_config l)) all alike in
    rw (whole, cut) behind
