-- Laws of what keys state: names and lists of tables.
use Rattle.std.proofs.Common.{◌≡◌, ℕ, suc, Bool, true, false, List, [], ◌∷◌, length, refl, sym, ap, ◌∙◌, arith, inl, inr}
use Rattle.std.specs.Prelude.{IsTrue, ◌↔◌, ◌&&◌, nat_lt, Some, None, option_and_then}
use Rattle.std.specs.List.{AllByRecursion, list_all}
use Rattle.std.proofs.lemmas.Bool.{cases_Bool, false≢true, and_parts}
use Rattle.std.proofs.lemmas.Bool.Decides.{nat_tests}
use Rattle.toml.specs.Data.{Data, table, Items, item}
use Rattle.toml.specs.Text.{are_tables}
use Rattle.toml.specs.View.{view, items_view}
use Rattle.toml.specs.declared.value.Value.{Value}
use Rattle.book_grammar.specs.BookForm.{IsLetter, IsName, IsNameByte}
use Rattle.award_file.specs.Stated.{is_letter, is_name_byte, is_name, where_passes, tables_of}

-- ---- names

letter-is : (c : ℕ) → is_letter c ≡ true → IsLetter c
letter-is c h = (grind (arith, nat_tests), grind (arith, nat_tests))

letter-tests : (c : ℕ) → IsLetter c → is_letter c ≡ true
letter-tests c h = grind (arith, nat_tests)

byte-is : (c : ℕ) → is_name_byte c ≡ true → IsNameByte c
byte-is c h = grind (arith, nat_tests)

byte-tests : (c : ℕ) → IsNameByte c → is_name_byte c ≡ true
byte-tests c (inl a) = grind (arith, nat_tests)
byte-tests c (inr (inl b)) = grind (arith, nat_tests)
byte-tests c (inr (inr e)) = grind (arith, nat_tests)

bytes-are : (cs : List ℕ) → list_all is_name_byte cs ≡ true → AllByRecursion IsNameByte cs
bytes-are [] h = tt
bytes-are (c ∷ cs) h = let parts = and_parts (is_name_byte c) (list_all is_name_byte cs) h in (byte-is c parts.0, bytes-are cs parts.1)

bytes-test : (cs : List ℕ) → AllByRecursion IsNameByte cs → list_all is_name_byte cs ≡ true
bytes-test [] h = refl
bytes-test (c ∷ cs) h = rw (byte-tests c h.0, bytes-test cs h.1)

-- what passes the test of names is a name
pub name-is : (s : List ℕ) → is_name s ≡ true → IsName s
name-is [] h = absurd (false≢true h)
name-is (c ∷ cs) h =
    let parts = and_parts (is_letter c) (list_all is_name_byte cs && nat_lt (length cs) 20) h in
    let more = and_parts (list_all is_name_byte cs) (nat_lt (length cs) 20) parts.1 in
    let short : nat_lt (length cs) 20 ≡ true = more.1 in
    (letter-is c parts.0, bytes-are cs more.0, grind (arith, nat_tests))

-- each name passes the test of names
pub name-tests : (s : List ℕ) → IsName s → is_name s ≡ true
name-tests [] h = absurd h
name-tests (c ∷ cs) h = rw (letter-tests c h.0, bytes-test cs h.1) (grind (arith, nat_tests, h.2))

-- a test of names is the test of the definition
pub same-test : (b : Bool) (s : List ℕ) → (IsTrue b ↔ IsName s) → b ≡ is_name s
same-test true s h = sym (name-tests s (h.0 refl))
same-test false s h =
    elim (cases_Bool (is_name s)) [
      | inl passes ↦ absurd (false≢true (h.1 (name-is s passes)))
      | inr fails ↦ sym fails
    ]

-- a string that passes the test of names is the name that is stated
pub name-passes : (s : List ℕ) → is_name s ≡ true → option_and_then (where_passes is_name) (Some s) ≡ Some s
name-passes s h = rw h

-- a string that fails the test of names states no name
pub name-fails : (s : List ℕ) → is_name s ≡ false → option_and_then (where_passes is_name) (Some s) ≡ None
name-fails s h = rw h

-- ---- lists of tables

-- of elements that are all tables the first counts as one, and the others are all tables
pub tables-more : (d : Data) (ds : Items) → are_tables (item d ds) ≡ true → (are_tables ds ≡ true) ×
    (length (tables_of (item d ds)) ≡ suc (length (tables_of ds)))
tables-more (table t) ds h = (h, refl)
tables-more _ ds h = absurd (false≢true h)

-- if all elements are tables, there are as many
pub tables-count : (vs : List Value) → are_tables (items_view vs) ≡ true → length (tables_of (items_view vs)) ≡ length vs
tables-count [] h = refl
tables-count (v ∷ vs) h = let more = tables-more (view v) (items_view vs) h in more.1 ∙ ap suc (tables-count vs more.0)
