-- The words of a command name files, no two the same.
use Rattle.std.proofs.Common.{◌≡◌, ◌≢◌, ℕ, Bool, true, false, Option, Some, None, List, [], ◌∷◌, length, map, take, drop, refl, sym, ap, subst, inl, inr}
use Rattle.std.specs.Prelude.{◌&&◌, ◌||◌, not, nat_lt, filter, option_and_then, if◌then◌else◌}
use Rattle.std.specs.Option.{option_map}
use Rattle.std.specs.Str.{bytes_eq}
use Rattle.std.proofs.lemmas.Bool.{cases_Bool}
use Rattle.std.proofs.lemmas.Slice.Eq.{bytes_eq-Decides}
use Rattle.cca_cli.specs.Command.{CommandValue, FileUse, are_file_words, asked, award, command_of, files_named, files_of, inputs_of, is_among}
use Rattle.cca_cli.specs.Command.{is_file_word, is_read, kind_named, number_said, row, said_after, said_by, said_numbered, said_with}
use Rattle.cca_cli.specs.declared.kind.Kind.{Kind}
use Rattle.cca_cli.specs.declared.kind.Use.{Use}
use Rattle.cca_cli.specs.declared.price_form.PriceForm.{PriceForm}
use Rattle.cca_cli.specs.declared.status.FileKind.{FileKind}
use Rattle.cca_run.specs.Run.{inputs}

-- both hold
pub and-both : (a b : Bool) → (a && b) ≡ true → (a ≡ true) × (b ≡ true)
and-both true b is = (refl, is)
and-both false b is = absurd cc

-- neither holds
pub neither : (a b : Bool) → (a || b) ≡ false → (a ≡ false) × (b ≡ false)
neither true b is = absurd cc
neither false b is = (refl, is)

pub not-true : (b : Bool) → not b ≡ true → b ≡ false
not-true true is = absurd cc
not-true false is = refl

-- the files of a command are names of files, no two the same
abbrev pub AreApart : CommandValue → Type 0
AreApart c = are_file_words (map (λ f. f.name) (files_of c)) ≡ true

-- words that say a command with something that they ask for
asked-apart : {A : Type 0} (b : Bool) (say : A → CommandValue) (asked : Option A) (c : CommandValue) → ((x : A) → b ≡ true → AreApart (say x))
    → (if b then option_map say asked else None) ≡ Some c → AreApart c
asked-apart true say None c apart is = absurd cc
asked-apart true say (Some x) c apart is = let same : say x ≡ c = cc in subst AreApart same (apart x refl)
asked-apart false say asked c apart is = absurd cc

-- that many words are the names of as many files
all-named : (files : List (FileKind × Use)) (words : List (List ℕ))
    → map (λ f. f.name) (files_named files (take (length files) words)) ≡ take (length files) words
all-named [] words = refl
all-named (file ∷ files) [] = refl
all-named (file ∷ files) (w ∷ words) = ap (λ (l : List (List ℕ)). w ∷ l) (all-named files words)

-- words that say a command of a kind, with its number
with-apart : (kind : Kind) (number : ℕ) (words : List (List ℕ)) (c : CommandValue) → said_with kind number words ≡ Some c → AreApart c
with-apart kind number words c is = by (nat_lt (length words) (length (row kind).files)) is
  where
    names : List (List ℕ)
    names = take (length (row kind).files) words

    flags : List (List ℕ)
    flags = drop (length (row kind).files) words

    by : (short : Bool) → option_and_then (λ (parts : List (List ℕ) × List (List ℕ)). said_after kind number parts.0 parts.1) (if short then None else Some (names, flags)) ≡ Some c → AreApart c
    by true says = absurd cc
    by false says =
        asked-apart (are_file_words names) (λ form. record { kind = kind; names = names; form = form; number = number }) (asked (row kind).flags flags) c
        (λ form e. subst (λ (l : List (List ℕ)). are_file_words l ≡ true) (sym (all-named (row kind).files words)) e) says

numbered-apart : (kind : Kind) (words : List (List ℕ)) (c : CommandValue) → said_numbered kind words ≡ Some c → AreApart c
numbered-apart kind [] c is = absurd cc
numbered-apart kind (n ∷ words) c is = by (number_said n) is
  where
    by : (number : Option ℕ) → option_and_then (λ m. said_with kind m words) number ≡ Some c → AreApart c
    by None says = absurd cc
    by (Some number) says = with-apart kind number words c says

-- words that say a command of a kind
said-apart : (kind : Kind) (rest : List (List ℕ)) (c : CommandValue) → said_by kind rest ≡ Some c → AreApart c
said-apart kind rest c is = by (row kind).number is
  where
    by : (numbered : Bool) → (if numbered then said_numbered kind rest else said_with kind 0 rest) ≡ Some c → AreApart c
    by true says = numbered-apart kind rest c says
    by false says = with-apart kind 0 rest c says

-- the files that the words of a command name
pub apart-in : (words : List (List ℕ)) (c : CommandValue) → command_of words ≡ Some c → AreApart c
apart-in [] c is = absurd cc
apart-in (w ∷ rest) c is = by (kind_named w) is
  where
    by : (named : Option Kind) → option_and_then (λ kind. said_by kind rest) named ≡ Some c → AreApart c
    by None says = absurd cc
    by (Some kind) says = said-apart kind rest c says

-- names that aren't the same
differ : (x y : List ℕ) → bytes_eq x y ≡ false → x ≢ y
differ x y apart same = let is = (bytes_eq-Decides x y).1 same in absurd cc

-- a name that isn't among others isn't among some of them
kept-apart : (f : List ℕ) (p : FileUse → Bool) (files : List FileUse) → is_among f (map (λ g. g.name) files) ≡ false
    → is_among f (map (λ g. g.name) (filter p files)) ≡ false
kept-apart f p [] none = none
kept-apart f p (g ∷ files) none =
    let parts = neither (bytes_eq f g.name) (is_among f (map (λ h. h.name) files)) none in
    let behind = kept-apart f p files parts.1 in
    elim (cases_Bool (p g)) [
      | inl keeps ↦ rw (keeps, parts.0) behind
      | inr drops ↦ rw drops behind
    ]

some-apart : (p : FileUse → Bool) (files : List FileUse) → are_file_words (map (λ g. g.name) files) ≡ true
    → are_file_words (map (λ g. g.name) (filter p files)) ≡ true
some-apart p [] apart = apart
some-apart p (g ∷ files) apart =
    let parts = and-both (is_file_word g.name) (not (is_among g.name (map (λ h. h.name) files)) && are_file_words (map (λ h. h.name) files)) apart in
    let behind = and-both (not (is_among g.name (map (λ h. h.name) files))) (are_file_words (map (λ h. h.name) files)) parts.1 in
    let later = some-apart p files behind.1 in
    let first = kept-apart g.name p files (not-true (is_among g.name (map (λ h. h.name) files)) behind.0) in
    elim (cases_Bool (p g)) [
      | inl keeps ↦ rw (keeps, parts.0, first, later) refl
      | inr drops ↦ rw drops later
    ]

-- no two inputs of a command are the same file
pub inputs-apart : (c : CommandValue) → AreApart c → are_file_words (inputs_of c) ≡ true
inputs-apart c apart = some-apart (λ f. is_read f.how) (files_of c) apart

-- so it is with the inputs that words name, which may say no command
pub words-apart : (words : List (List ℕ)) → are_file_words (inputs (command_of words)) ≡ true
words-apart words = by (command_of words) (apart-in words)
  where
    by : (command : Option CommandValue) → ((c : CommandValue) → command ≡ Some c → AreApart c) → are_file_words (inputs command) ≡ true
    by None apart = refl
    by (Some c) apart = inputs-apart c (apart c refl)

-- the file that is appended to is none of those that are read
pub record IsApart (terms log cert : List ℕ) : Type 0 where
  -- the award's file isn't the certificate's
  pub award : terms ≢ cert
  -- the log's file isn't the certificate's
  pub lines : log ≢ cert

-- so it is with the files of `award`
pub award-files : (terms log cert : List ℕ) (form : PriceForm) → AreApart (award terms log cert form) → IsApart terms log cert
award-files terms log cert form apart =
    let all = and-both (is_file_word terms) (not (is_among terms (log ∷ cert ∷ [])) && are_file_words (log ∷ cert ∷ [])) apart in
    let first = and-both (not (is_among terms (log ∷ cert ∷ []))) (are_file_words (log ∷ cert ∷ [])) all.1 in
    let terms_apart = neither (bytes_eq terms log) (is_among terms (cert ∷ [])) (not-true (is_among terms (log ∷ cert ∷ [])) first.0) in
    let behind = and-both (is_file_word log) (not (is_among log (cert ∷ [])) && are_file_words (cert ∷ [])) first.1 in
    let second = and-both (not (is_among log (cert ∷ []))) (are_file_words (cert ∷ [])) behind.1 in
    let terms_cert = neither (bytes_eq terms cert) false terms_apart.1 in
    let log_cert = neither (bytes_eq log cert) false (not-true (is_among log (cert ∷ [])) second.0) in
    record { award = differ terms cert terms_cert.0; lines = differ log cert log_cert.0 }
