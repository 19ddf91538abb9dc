-- The records of a log, one after the other.
use Rattle.std.proofs.Common.{◌≡◌, ℕ, suc, ◌<◌, List, [], ◌∷◌, ◌++◌, length, refl, sym, ap, subst, ◌∙◌, arith, append_assoc, length-append}
use Rattle.std.proofs.lemmas.List.{append-nil}
use Rattle.auction_rules.specs.Terms.{Terms}
use Rattle.auction_rules.specs.declared.Event.{Event}
use Rattle.std.specs.Prelude.{Result, Err, IfErr}
use Rattle.log_file.specs.declared.LogStop.{LogStop}
use Rattle.log_file.specs.declared.LogStop.TheVariants.{Memory}
use Rattle.log_file.specs.LogForm.{States, StatesNone}
use Rattle.log_file.specs.Statements.{IsUntaken, untaken_stop}
use Rattle.log_file.specs.declared.read.RecordFault.{RecordFault}
use Rattle.log_file.specs.declared.read.RecordFault.TheVariants.{NoEvent, TooMany}
use Rattle.log_file.specs.LogReading.{AllState, AreLog, AreTooMany, BeginWith, IsFirstFault, IsStop}
use Rattle.limits.specs.declared.TheConstants.{MOST_RECORDS}

abbrev pub Rows : Type 0
Rows = List (List (List ℕ))

state_push : (terms : Terms) (rows : Rows) (events : List Event) (r : List (List ℕ)) (e : Event) → AllState terms rows events → States terms r e
    → AllState terms (rows ++ r ∷ []) (events ++ e ∷ [])
state_push terms [] [] r e all is = (is, tt)
state_push terms (x ∷ rows) (y ∷ events) r e all is = (all.0, state_push terms rows events r e all.1 is)
state_push terms [] (y ∷ events) r e all is = absurd all
state_push terms (x ∷ rows) [] r e all is = absurd all

-- before the first record
pub begin : (terms : Terms) (rows : Rows) → BeginWith terms rows [] rows
begin terms rows = record { before = []; whole = refl; states = tt; few = omega arith }

-- one record more
pub begin_more : (terms : Terms) (rows : Rows) (events : List Event) (left : Rows) (r : List (List ℕ)) (later : Rows) (e : Event)
    → BeginWith terms rows events left → left ≡ r ∷ later → length events < MOST_RECORDS
    → States terms r e → BeginWith terms rows (events ++ e ∷ []) later
begin_more terms rows events left r later e had is few states = record {
  before = had.before ++ r ∷ [];
  whole = had.whole ∙ ap (λ (l : Rows). had.before ++ l) is ∙ sym (append_assoc had.before (r ∷ []) later);
  states = state_push terms had.before events r e had.states states;
  few = omega (arith, few, length-append events (e ∷ []));
}

-- after the last record
pub log_ends : (terms : Terms) (rows : Rows) (events : List Event) (left : Rows) → BeginWith terms rows events left → left ≡ [] → AreLog terms rows events
log_ends terms rows events left had none =
    let whole : rows ≡ had.before = had.whole ∙ ap (λ (l : Rows). had.before ++ l) none ∙ append-nil had.before in
    (subst (λ (l : Rows). AllState terms l events) (sym whole) had.states, had.few)

-- what is left after the events may be given by any equal records
pub begin_at : (terms : Terms) (rows : Rows) (events : List Event) (left other : Rows) → BeginWith terms rows events left → left ≡ other
    → BeginWith terms rows events other
begin_at terms rows events left other had is = subst (BeginWith terms rows events) is had

-- a record that states nothing is the first fault
pub first_fault :
    (terms : Terms) (rows : Rows) (events : List Event) (left : Rows) (r : List (List ℕ)) (later : Rows) → BeginWith terms rows events left
    → left ≡ r ∷ later → length events < MOST_RECORDS
    → StatesNone terms r → IsFirstFault terms rows (suc (length events))
first_fault terms rows events left r later had is few none = (events, r, later, begin_at terms rows events left (r ∷ later) had is, none, few, refl)

-- a record after the greatest number of them
pub too_many :
    (terms : Terms) (rows : Rows) (events : List Event) (left : Rows) (r : List (List ℕ)) (later : Rows) → BeginWith terms rows events left
    → left ≡ r ∷ later → length events ≡ MOST_RECORDS
    → AreTooMany terms rows
too_many terms rows events left r later had is many = (events, r, later, begin_at terms rows events left (r ∷ later) had is, many)

-- ---- answers

-- a stop when out of memory may stand for any records
pub memory_stop : {T : Type 0} (Has : Rows → Type 0) (terms : Terms) (r : Result T LogStop) (e : LogStop) → r ≡ Err e
    → ((rows : Rows) → Has rows → e ≡ Memory) → IfErr r (λ stop. (rows : Rows) → Has rows → IsStop terms rows stop)
memory_stop Has terms r e is memory = rw is (λ rows has. subst (IsStop terms rows) (sym (memory rows has)) tt)

-- the stop at a record that isn't taken is one of the records
untaken : (terms : Terms) (rows : Rows) (events : List Event) (left : Rows) (r : List (List ℕ)) (later : Rows) (fault : RecordFault)
    → BeginWith terms rows events left → left ≡ r ∷ later → IsUntaken terms r (length events) fault → IsStop terms rows (untaken_stop fault)
untaken terms rows events left r later (NoEvent number) had is (none, few, at) =
    subst (IsFirstFault terms rows) (sym at) (first_fault terms rows events left r later had is few none)
untaken terms rows events left r later TooMany had is many = (too_many terms rows events left r later had is many, refl, refl)

-- for all records that there may be
pub fault_stop : {T : Type 0} (Has : Rows → Type 0) (terms : Terms) (events : List Event) (r : List (List ℕ)) (fault : RecordFault)
    (result : Result T LogStop) (e : LogStop) → result ≡ Err e → e ≡ untaken_stop fault → IsUntaken terms r (length events) fault
    → ((rows : Rows) → Has rows → (later : Rows) × BeginWith terms rows events (r ∷ later))
    → IfErr result (λ stop. (rows : Rows) → Has rows → IsStop terms rows stop)
fault_stop Has terms events r fault result e is stops not had =
    rw (is, stops) (λ rows has. let h = had rows has in untaken terms rows events (r ∷ h.0) r h.0 fault h.1 refl not)
