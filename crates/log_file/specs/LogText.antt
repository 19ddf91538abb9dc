-- The text of a log: a record for each line, its fields between commas, none of them in quotation marks.
use Rattle.std.specs.Prelude.{ℕ, ◌≤◌, List, [], ◌∷◌, ◌++◌, codes, flat_map, length}
use Rattle.std.specs.Fmt.{decimal}
use Rattle.limits.specs.declared.TheConstants.{MOST_STATED_AMOUNT}
use Rattle.auction_rules.specs.Terms.{Terms}
use Rattle.auction_rules.specs.declared.Event.{Event}
use Rattle.auction_rules.specs.declared.Event.TheVariants.{Bid, Close, Draft, Drop, Submit}
use Rattle.log_file.specs.LogForm.{AreCounts, IsNameOf, counts_text, four}

-- the fields of the record of an event: kind, bidder, package, amount; bidder k is named so
abbrev pub event_fields : (ℕ → List ℕ) → Event → List (List ℕ)
event_fields name (Bid k lots) = four (codes "bid") (name k) (counts_text lots) []
event_fields name (Draft k lots amount) = four (codes "draft") (name k) (counts_text lots) (decimal amount)
event_fields name (Drop k lots) = four (codes "drop") (name k) (counts_text lots) []
event_fields name (Submit k) = four (codes "submit") (name k) [] []
event_fields name Close = four (codes "close") [] [] []

-- fields after another one, each after a comma, and the line feed
abbrev pub fields_behind : List (List ℕ) → List ℕ
fields_behind [] = 10 ∷ []
fields_behind (f ∷ fields) = 44 ∷ (f ++ fields_behind fields)

-- a record: its fields with a comma between each two, and a line feed
abbrev pub record_text : List (List ℕ) → List ℕ
record_text [] = 10 ∷ []
record_text (f ∷ fields) = f ++ fields_behind fields

abbrev pub event_text : (ℕ → List ℕ) → Event → List ℕ
event_text name e = record_text (event_fields name e)

abbrev pub log_text : (ℕ → List ℕ) → List Event → List ℕ
log_text name events = flat_map (event_text name) events

-- a record can state the event: its bidder has this name in the award, or is a stranger of this name, and its numbers have room
abbrev pub IsStatable : Terms → (ℕ → List ℕ) → Event → Type 0
IsStatable terms name (Bid k lots) = IsNameOf terms k (name k) × AreCounts (length terms.supply) lots
IsStatable terms name (Draft k lots amount) =
    IsNameOf terms k (name k) × AreCounts (length terms.supply) lots × (amount ≤ MOST_STATED_AMOUNT)
IsStatable terms name (Drop k lots) = IsNameOf terms k (name k) × AreCounts (length terms.supply) lots
IsStatable terms name (Submit k) = IsNameOf terms k (name k)
IsStatable terms name Close = Unit {0}
