-- What the keys of a table state, each if it follows its rule.
use Rattle.std.specs.Prelude.{Bool, List, None, Option, Some, [], codes, false, if◌then◌else◌, length, nat_le, nat_lt, negsuc, not, option_and_then}
use Rattle.std.specs.Prelude.{option_map, pos, ℕ, ℤ, ◌&&◌, ◌==◌, ◌||◌, ◌∷◌}
use Rattle.std.specs.List.{list_all, list_any}
use Rattle.std.specs.Str.{bytes_eq}
use Rattle.limits.specs.declared.TheConstants.{MOST_NAME_BYTES}
use Rattle.toml.specs.Data.{Data, array, table, Items, no_items, item, Members, no_members, member, get_member, as_str, as_integer}
use Rattle.toml.specs.Text.{are_tables}

-- the value, if it passes the test
abbrev pub where_passes : {A : Type 0} → (A → Bool) → A → Option A
where_passes test x = if test x then Some x else None

-- ---- whole numbers

-- the number, if it is from low to high
abbrev pub in_range : ℕ → ℕ → ℤ → Option ℕ
in_range low high (pos n) = where_passes (λ m. nat_le low m && nat_le m high) n
in_range low high (negsuc n) = None

-- the whole number from low to high that a value is
abbrev pub whole_of : ℕ → ℕ → Data → Option ℕ
whole_of low high d = option_and_then (in_range low high) (as_integer d)

-- the whole number from low to high that a key states
abbrev pub number_at : ℕ → ℕ → List ℕ → Members → Option ℕ
number_at low high key t = option_and_then (whole_of low high) (get_member key t)

-- a first number before others
abbrev pub before_others : Option ℕ → Option (List ℕ) → Option (List ℕ)
before_others (Some n) others = option_map (λ ns. n ∷ ns) others
before_others None others = None

-- the whole numbers of an array, none above high
abbrev pub numbers_of : ℕ → Items → Option (List ℕ)
numbers_of high no_items = Some []
numbers_of high (item d ds) = before_others (whole_of 0 high d) (numbers_of high ds)

-- that many whole numbers, none above high
abbrev pub row_of : ℕ → ℕ → Data → Option (List ℕ)
row_of count high (array ds) = option_and_then (where_passes (λ ns. length ns == count)) (numbers_of high ds)
row_of count high _ = None

-- ---- names

-- a letter a to z
abbrev pub is_letter : ℕ → Bool
is_letter c = nat_le 97 c && nat_le c 122

-- a letter, a digit or '_'
abbrev pub is_name_byte : ℕ → Bool
is_name_byte c = is_letter c || ((nat_le 48 c && nat_le c 57) || c == 95)

-- 1 to `MOST_NAME_BYTES` letters, digits and '_', a letter first
abbrev pub is_name : List ℕ → Bool
is_name [] = false
is_name (c ∷ cs) = is_letter c && (list_all is_name_byte cs && nat_lt (length cs) MOST_NAME_BYTES)

-- the string that a key states
abbrev pub string_at : List ℕ → Members → Option (List ℕ)
string_at key t = option_and_then as_str (get_member key t)

-- the name that a table states
abbrev pub name_at : Members → Option (List ℕ)
name_at t = option_and_then (where_passes is_name) (string_at (codes "name") t)

-- ---- lists of tables

-- the tables of an array, without its other elements
abbrev pub tables_of : Items → List Members
tables_of no_items = []
tables_of (item (table t) ds) = t ∷ tables_of ds
tables_of (item _ ds) = tables_of ds

-- the tables that a key states: it is missing, or an array of tables
abbrev pub list_of : Option Data → Option (List Members)
list_of None = Some []
list_of (Some (array ds)) = if are_tables ds then Some (tables_of ds) else None
list_of (Some _) = None

-- the tables that a key states, if their number is allowed
abbrev pub tables_at : (ℕ → Bool) → List ℕ → Members → Option (List Members)
tables_at allowed key t = option_and_then (where_passes (λ ts. allowed (length ts))) (list_of (get_member key t))

-- ---- keys

-- some key is none of these
abbrev pub has_other : List (List ℕ) → Members → Bool
has_other keys no_members = false
has_other keys (member k d t) = not (list_any (bytes_eq k) keys) || has_other keys t
