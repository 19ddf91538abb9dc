-- What the bytes of a log state, and which is the first faulty record.
use Rattle.std.specs.Prelude.{◌≡◌, ℕ, suc, ◌<◌, ◌≤◌, List, [], ◌∷◌, ◌++◌, length}
use Rattle.limits.specs.declared.TheConstants.{MOST_RECORDS}
use Rattle.csv.specs.Reading.{records, default_config, strip_bom}
use Rattle.limits.specs.declared.LimitKind.TheVariants.{Records}
use Rattle.auction_rules.specs.Terms.{Terms}
use Rattle.auction_rules.specs.declared.Event.{Event}
use Rattle.log_file.specs.declared.LogStop.{LogStop}
use Rattle.log_file.specs.declared.LogStop.TheVariants.{Form, Limit, Memory}
use Rattle.log_file.specs.LogForm.{States, StatesNone}

-- the fields of each record, as the crate csv defines them; a byte order mark at the start isn't part of them
abbrev pub log_records : List ℕ → List (List (List ℕ))
log_records bytes = records default_config (strip_bom bytes)

-- each record states the event at its place, and there are as many of both
abbrev pub AllState : Terms → List (List (List ℕ)) → List Event → Type 0
AllState terms [] [] = Unit {0}
AllState terms (r ∷ rs) (e ∷ es) = States terms r e × AllState terms rs es
AllState terms [] (e ∷ es) = ⊥
AllState terms (r ∷ rs) [] = ⊥

-- the records begin with that many that state these events, and these are left
pub record BeginWith (terms : Terms) (rows : List (List (List ℕ))) (events : List Event) (left : List (List (List ℕ))) : Type 0 where
  pub before : List (List (List ℕ))
  pub whole : rows ≡ before ++ left
  pub states : AllState terms before events
  pub few : length events ≤ MOST_RECORDS

-- the records are a log of these events
abbrev pub AreLog : Terms → List (List (List ℕ)) → List Event → Type 0
AreLog terms rows events = AllState terms rows events × (length events ≤ MOST_RECORDS)

-- the record of this number, counted from 1, is the first that states no event, and it isn't above the limit
abbrev pub IsFirstFault : Terms → List (List (List ℕ)) → ℕ → Type 0
IsFirstFault terms rows number =
    (events : List Event) × (fields : List (List ℕ)) × (later : List (List (List ℕ)))
    × BeginWith terms rows events (fields ∷ later) × StatesNone terms fields × (length events < MOST_RECORDS)
    × (number ≡ suc (length events))

-- after as many records as a log may have, each with an event, another one follows
abbrev pub AreTooMany : Terms → List (List (List ℕ)) → Type 0
AreTooMany terms rows =
    (events : List Event) × (fields : List (List ℕ)) × (later : List (List (List ℕ)))
    × BeginWith terms rows events (fields ∷ later) × (length events ≡ MOST_RECORDS)

-- what a stop says about the records
abbrev pub IsStop : Terms → List (List (List ℕ)) → LogStop → Type 0
IsStop terms rows (Form number) = IsFirstFault terms rows number
IsStop terms rows (Limit kind count) = AreTooMany terms rows × (kind ≡ Records) × (count ≡ suc MOST_RECORDS)
IsStop terms rows Memory = Unit {0}
