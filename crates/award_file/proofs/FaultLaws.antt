-- What holds of a table without a fault.
use Rattle.std.proofs.Common.{◌≡◌, ℕ, ℤ, pos, negsuc, ◌≤◌, Bool, true, false, List, [], ◌∷◌, length, replicate, Option, Some, None, refl, sym, arith}
use Rattle.std.specs.Prelude.{◌&&◌, ◌==◌, nat_le, is_some, unwrap_or, option_and_then, codes, if◌then◌else◌}
use Rattle.std.specs.List.{AllByRecursion}
use Rattle.std.proofs.lemmas.Bool.{false≢true}
use Rattle.std.proofs.lemmas.Bool.Decides.{nat_tests}
use Rattle.std.proofs.lemmas.List.{length-replicate}
use Rattle.std.proofs.lemmas.List.Elements.{All-replicate, recursion_from_All}
use Rattle.toml.specs.Data.{Data, array, Items, no_items, item, Members, get_member, as_integer}
use Rattle.book_grammar.specs.BookForm.{IsName}
use Rattle.award_file.specs.Stated.{where_passes, in_range, whole_of, number_at, before_others, numbers_of, row_of, is_name, string_at, name_at}
use Rattle.award_file.specs.Walk.{Fault, unless, first_fault, is_new, name_or_none, holding_in, list_fault}
use Rattle.award_file.proofs.FieldLaws.{name-is}

-- ---- faults

-- if none of three rules is broken, all hold; and so for four and five
pub three-hold : (a b c : Bool) (i j k entry : ℕ) → first_fault (unless a i entry ∷ unless b j entry ∷ unless c k entry ∷ []) ≡ None
    → (a ≡ true) × (b ≡ true) × (c ≡ true)
three-hold false b c i j k entry h = absurd (cc h)
three-hold true false c i j k entry h = absurd (cc h)
three-hold true true false i j k entry h = absurd (cc h)
three-hold true true true i j k entry h = (refl, refl, refl)

-- if none of four rules is broken, all four hold
pub four-hold : (a b c d : Bool) (i j k l entry : ℕ) → first_fault (unless a i entry ∷ unless b j entry ∷ unless c k entry ∷ unless d l entry ∷ []) ≡ None
    → (a ≡ true) × (b ≡ true) × (c ≡ true) × (d ≡ true)
four-hold false b c d i j k l entry h = absurd (cc h)
four-hold true b c d i j k l entry h = let more = three-hold b c d j k l entry h in (refl, more.0, more.1, more.2)

-- if none of five rules is broken, all five hold
pub five-hold : (a b c d e : Bool) (i j k l m entry : ℕ) → first_fault (unless a i entry ∷ unless b j entry ∷ unless c k entry ∷ unless d l entry ∷ unless e m
    entry ∷ []) ≡ None
    → (a ≡ true) × (b ≡ true) × (c ≡ true) × (d ≡ true) × (e ≡ true)
five-hold false b c d e i j k l m entry h = absurd (cc h)
five-hold true b c d e i j k l m entry h = let more = four-hold b c d e j k l m entry h in (refl, more.0, more.1, more.2, more.3)

-- ---- whole numbers

-- the value that stands for an option is from low to high
abbrev pub IsFrom : ℕ → ℕ → Option ℕ → Type 0
IsFrom low high found = (low ≤ unwrap_or found 0) × (unwrap_or found 0 ≤ high)

picked : (low high n : ℕ) (b : Bool) → b ≡ (nat_le low n && nat_le n high) → is_some (if b then Some n else None) ≡ true
    → IsFrom low high (if b then Some n else None)
picked low high n true is h = (grind (arith, nat_tests), grind (arith, nat_tests))
picked low high n false is h = absurd (false≢true h)

ranged : (low high : ℕ) (z : ℤ) → is_some (in_range low high z) ≡ true → IsFrom low high (in_range low high z)
ranged low high (pos n) h = picked low high n (nat_le low n && nat_le n high) refl h
ranged low high (negsuc n) h = absurd (false≢true h)

whole : (low high : ℕ) (found : Option ℤ) → is_some (option_and_then (in_range low high) found) ≡ true
    → IsFrom low high (option_and_then (in_range low high) found)
whole low high None h = absurd (false≢true h)
whole low high (Some z) h = ranged low high z h

found-in : (low high : ℕ) (found : Option Data) → is_some (option_and_then (whole_of low high) found) ≡ true
    → IsFrom low high (option_and_then (whole_of low high) found)
found-in low high None h = absurd (false≢true h)
found-in low high (Some d) h = whole low high (as_integer d) h

-- a number that a key states within bounds is from low to high
pub number-in : (low high : ℕ) (key : List ℕ) (t : Members) → is_some (number_at low high key t) ≡ true → IsFrom low high (number_at low high key t)
number-in low high key t h = found-in low high (get_member key t) h

-- ---- rows

-- that many numbers, none above high
abbrev pub IsRow : ℕ → ℕ → List ℕ → Type 0
IsRow count high ns = (length ns ≡ count) × AllByRecursion (λ n. n ≤ high) ns

-- the numbers that stand for an option are at most high
abbrev AreLow : ℕ → Option (List ℕ) → Type 0
AreLow high None = Unit {0}
AreLow high (Some ns) = AllByRecursion (λ n. n ≤ high) ns

low-more : (high : ℕ) (first : Option ℕ) (others : Option (List ℕ)) → (is_some first ≡ true → IsFrom 0 high first) → AreLow high others
    → AreLow high (before_others first others)
low-more high None others first all = tt
low-more high (Some n) None first all = tt
low-more high (Some n) (Some ns) first all = ((first refl).1, all)

all-low : (high : ℕ) (ds : Items) → AreLow high (numbers_of high ds)
all-low high no_items = tt
all-low high (item d ds) = low-more high (whole_of 0 high d) (numbers_of high ds) (whole 0 high (as_integer d)) (all-low high ds)

counted : (count high : ℕ) (ns : List ℕ) (b : Bool) → b ≡ (length ns == count) → AllByRecursion (λ n. n ≤ high) ns
    → is_some (if b then Some ns else None) ≡ true → IsRow count high (unwrap_or (if b then Some ns else None) [])
counted count high ns true is all h = (grind (arith, nat_tests), all)
counted count high ns false is all h = absurd (false≢true h)

row-from : (count high : ℕ) (found : Option (List ℕ)) → AreLow high found → is_some (option_and_then (where_passes (λ ns. length ns == count)) found) ≡ true
    → IsRow count high (unwrap_or (option_and_then (where_passes (λ ns. length ns == count)) found) [])
row-from count high None all h = absurd (false≢true h)
row-from count high (Some ns) all h = counted count high ns (length ns == count) refl all h

-- a value that is a row is that many numbers, none above high
pub row-in : (count high : ℕ) (d : Data) → is_some (row_of count high d) ≡ true → IsRow count high (unwrap_or (row_of count high d) [])
row-in count high (array ds) h = row-from count high (numbers_of high ds) (all-low high ds) h
row-in count high _ h = absurd (false≢true h)

-- a row that a key states is that many numbers, none above high
pub row-at : (count high : ℕ) (found : Option Data) → is_some (option_and_then (row_of count high) found) ≡ true
    → IsRow count high (unwrap_or (option_and_then (row_of count high) found) [])
row-at count high None h = absurd (false≢true h)
row-at count high (Some d) h = row-in count high d h

zeros-low : (n high : ℕ) → AllByRecursion (λ m. m ≤ high) (replicate n 0)
zeros-low n high = recursion_from_All (λ m. m ≤ high) (replicate n 0) (All-replicate (λ m. m ≤ high) n 0 (omega arith))

-- a holding, stated or left out, has a number of at most 999 for each category
pub holding-at : (count : ℕ) (found : Option Data) → is_some (holding_in count found) ≡ true → IsRow count 999 (unwrap_or (holding_in count found) [])
holding-at count None h = (length-replicate {A = ℕ} count 0, zeros-low count 999)
holding-at count (Some d) h = row-in count 999 d h

-- ---- names

named : (before : List (List ℕ)) (s : List ℕ) (b : Bool) → b ≡ is_name s → is_new before (if b then Some s else None) ≡ true
    → IsName (unwrap_or (if b then Some s else None) [])
named before s true is h = name-is s (sym is)
named before s false is h = absurd (false≢true h)

name-from : (before : List (List ℕ)) (found : Option (List ℕ)) → is_new before (option_and_then (where_passes is_name) found) ≡ true
    → IsName (unwrap_or (option_and_then (where_passes is_name) found) [])
name-from before None h = absurd (false≢true h)
name-from before (Some s) h = named before s (is_name s) refl h

-- a stated name that is new has the form of a name
pub name-in : (before : List (List ℕ)) (t : Members) → is_new before (name_at t) ≡ true → IsName (name_or_none t)
name-in before t h = name-from before (string_at (codes "name") t) h

-- ---- lists

count-kept : (allowed : ℕ → Bool) (ts : List Members) (b : Bool) → b ≡ allowed (length ts) → is_some (if b then Some ts else None) ≡ true
    → allowed (length (unwrap_or (if b then Some ts else None) [])) ≡ true
count-kept allowed ts true is h = sym is
count-kept allowed ts false is h = absurd (false≢true h)

-- the tables of a list that is allowed are that many
pub list-count : (allowed : ℕ → Bool) (found : Option (List Members)) → is_some (option_and_then (where_passes (λ ts. allowed (length ts))) found) ≡ true
    → allowed (length (unwrap_or (option_and_then (where_passes (λ ts. allowed (length ts))) found) [])) ≡ true
list-count allowed None h = absurd (false≢true h)
list-count allowed (Some ts) h = count-kept allowed ts (allowed (length ts)) refl h

-- a list without a fault is one that is allowed, and its tables have none
pub list-passes : (field : ℕ) (inside : List Members → Option Fault) (found : Option (List Members)) → list_fault field inside found ≡ None
    → (is_some found ≡ true) × (inside (unwrap_or found []) ≡ None)
list-passes field inside None h = absurd (cc h)
list-passes field inside (Some ts) h = (refl, h)
