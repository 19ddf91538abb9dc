-- From the clauses of the crate toml, and from the parts of the reader, to what the bytes say.
use Rattle.std.proofs.Common.{◌≡◌, ℕ, Bool, true, false, List, [], ◌∷◌, length, Option, Some, None, sym, ap, ◌∙◌, inl, inr}
use Rattle.std.specs.Prelude.{unwrap_or}
use Rattle.std.specs.Option.{option_or}
use Rattle.std.proofs.lemmas.Bool.{cases_Bool}
use Rattle.std.proofs.lemmas.List.{length-map}
use Rattle.std.proofs.lemmas.Str.{is_utf8-from_IsUtf8, IsUtf8-from_is_utf8}
use Rattle.std.specs.Str.{IsUtf8, is_utf8}
use Rattle.toml.specs.Data.{Members}
use Rattle.toml.specs.Parse.{parse_document}
use Rattle.auction_rules.specs.Terms.{Terms}
use Rattle.award_file.specs.declared.read.AwardStop.{AwardStop}
use Rattle.award_file.specs.declared.read.AwardStop.TheVariants.{Text, Field, Limit, Memory}
use Rattle.award_file.specs.declared.read.categories.Category.{Category as Read}
use Rattle.award_file.specs.Parts.{category_value, category_values}
use Rattle.award_file.specs.Walk.{Fault, Category, unless, first_fault, categories_at, categories_of, category_of, category_count}
use Rattle.award_file.proofs.ListLaws.{first-stops}
use Rattle.award_file.specs.Reading.{IsFault, IsStop, stated_table, reading_after}

-- bytes that are UTF-8 and parse as a table state that table
pub stated-table : (bytes : List ℕ) (t : Members) → IsUtf8 bytes → parse_document bytes ≡ Some t → stated_table bytes ≡ Some t
stated-table bytes t utf8 parsed = rw (is_utf8-from_IsUtf8 bytes utf8) parsed

-- bytes that don't parse, or aren't UTF-8, state no table
pub no-table : (bytes : List ℕ) → (IsUtf8 bytes → parse_document bytes ≡ None) → stated_table bytes ≡ None
no-table bytes refused =
    elim (cases_Bool (is_utf8 bytes)) [
      | inl text ↦ rw text (refused (IsUtf8-from_is_utf8 bytes text))
      | inr other ↦ rw other
    ]

-- the stop at a fault is the stop of the reading
pub fault-stops : (fault : Option Fault) (terms : Terms) (stop : AwardStop) → IsFault fault stop → IsStop (reading_after fault terms) stop
fault-stops fault terms Text h = absurd h
fault-stops fault terms (Field number entry) h = rw h
fault-stops fault terms (Limit kind count) h = absurd h
fault-stops fault terms Memory h = tt

-- ---- the rules of the top

-- the first fault of the top: two rules, four lists and a last rule
abbrev top_fault : Bool → Bool → Option Fault → Option Fault → Option Fault → Option Fault → Bool → Option Fault
top_fault a b f g h i c = first_fault (unless a 1 0 ∷ unless b 2 0 ∷ f ∷ g ∷ h ∷ i ∷ unless c 18 0 ∷ [])

-- the stop at the third list, after two without a fault
pub third-stops : (a b : Bool) (f g h i : Option Fault) (c : Bool) (stop : AwardStop) → a ≡ true → b ≡ true → f ≡ None → g ≡ None → IsFault h stop
    → IsFault (top_fault a b f g h i c) stop
third-stops a b f g h i c stop first second third fourth stops =
    let here : IsFault (option_or h (option_or i (first_fault (unless c 18 0 ∷ [])))) stop = first-stops h _ stop stops in
    rw (first, second, third, fourth) here

-- the stop at the fourth list, after three without a fault
pub fourth-stops : (a b : Bool) (f g h i : Option Fault) (c : Bool) (stop : AwardStop) → a ≡ true → b ≡ true → f ≡ None → g ≡ None → h ≡ None → IsFault i stop
    → IsFault (top_fault a b f g h i c) stop
fourth-stops a b f g h i c stop first second third fourth fifth stops =
    let here : IsFault (option_or i (first_fault (unless c 18 0 ∷ []))) stop = first-stops i _ stop stops in
    rw (first, second, third, fourth, fifth) here

-- after four lists without a fault the last rule decides
pub last-decides : (a b : Bool) (f g h i : Option Fault) (c : Bool) → a ≡ true → b ≡ true → f ≡ None → g ≡ None → h ≡ None → i ≡ None
    → top_fault a b f g h i c ≡ unless c 18 0
last-decides a b f g h i true first second third fourth fifth sixth = rw (first, second, third, fourth, fifth, sixth)
last-decides a b f g h i false first second third fourth fifth sixth = rw (first, second, third, fourth, fifth, sixth)

-- as many categories are read as the table states
pub count-is : (read : List Read) (t : Members) → category_values read ≡ categories_of t → length read ≡ category_count t
count-is read t same = sym (length-map read category_value) ∙ ap (λ (cs : List Category). length cs) same
    ∙ length-map (unwrap_or (categories_at t) []) category_of
