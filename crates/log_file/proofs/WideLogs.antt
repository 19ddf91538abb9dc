-- A text that ends within a record of too many fields says of a log what the whole says.
use Rattle.std.proofs.Common.{◌≡◌, ◌⊎◌, ◌<◌, ℕ, List, [], ◌∷◌, ◌++◌, length, refl, sym, ap, subst, ◌∙◌, inl, inr, arith, length-append}
use Rattle.auction_rules.specs.Terms.{Terms}
use Rattle.auction_rules.specs.declared.Event.{Event}
use Rattle.auction_rules.specs.declared.Event.TheVariants.{Bid, Close, Draft, Drop, Submit}
use Rattle.log_file.specs.LogForm.{States, StatesNone}
use Rattle.log_file.specs.LogReading.{AllState, AreLog, AreTooMany, BeginWith, IsFirstFault, IsStop}
use Rattle.log_file.specs.WideRecords.{ReadsAlike, SameToWide}
use Rattle.log_file.specs.declared.LogStop.{LogStop}
use Rattle.log_file.specs.declared.LogStop.TheVariants.{Form, Limit, Memory}
use Rattle.log_file.proofs.LogLaws.{Rows}

-- what states an event has four fields
four_stated : (terms : Terms) (fields : List (List ℕ)) (e : Event) → States terms fields e → length fields ≡ 4
four_stated terms fields (Bid k lots) states = ap length states.3
four_stated terms fields (Draft k lots amount) states = ap length states.4
four_stated terms fields (Drop k lots) states = ap length states.3
four_stated terms fields (Submit k) states = ap length states.2
four_stated terms fields Close states = ap length states

none_stated : (terms : Terms) (fields : List (List ℕ)) → 4 < length fields → StatesNone terms fields
none_stated terms fields wide = λ e states. absurd (omega (arith, wide, four_stated terms fields e states))

-- no log has such a record
no_log : (terms : Terms) (before : Rows) (first : List (List ℕ)) (events : List Event) → 4 < length first
    → AllState terms (before ++ (first ∷ [])) events → ⊥
no_log terms [] first [] wide all = absurd all
no_log terms [] first (e ∷ events) wide all = none_stated terms first wide e all.0
no_log terms (r ∷ before) first [] wide all = absurd all
no_log terms (r ∷ before) first (e ∷ events) wide all = no_log terms before first events wide all.1

-- the whole text has the same record at the place of one that the cut text has, or that with too many fields
record Behind (b : Rows) (fields other : List (List ℕ)) (whole : Rows) : Type 0 where
  pub found : List (List ℕ)
  pub later : Rows
  pub is : whole ≡ b ++ (found ∷ later)
  pub same : (found ≡ fields) ⊎ (found ≡ other)

behind : (b before : Rows) (fields first other : List (List ℕ)) (later rest : Rows) → before ++ (first ∷ []) ≡ b ++ (fields ∷ later)
    → Behind b fields other (before ++ (other ∷ rest))
behind [] [] fields first other later rest is = record { found = other; later = rest; is = refl; same = inr refl }
behind [] (x ∷ before) fields first other later rest is = record { found = x; later = before ++ (other ∷ rest); is = refl; same = inl (cc is) }
behind (y ∷ b) [] fields first other later rest is =
    absurd (omega (arith, ap length is, length-append b (fields ∷ later)))
behind (y ∷ b) (x ∷ before) fields first other later rest is =
    let more = behind b before fields first other later rest (cc is) in
    let head : x ≡ y = cc is in record {
      found = more.found;
      later = more.later;
      is = ap (λ (z : List (List ℕ)). z ∷ (before ++ (other ∷ rest))) head ∙ ap (λ (l : Rows). y ∷ l) more.is;
      same = more.same;
    }

-- what a record states nothing that is the same as one that states nothing, or has too many fields
none_found : (terms : Terms) (found fields other : List (List ℕ)) → (found ≡ fields) ⊎ (found ≡ other) → StatesNone terms fields → 4 < length other
    → StatesNone terms found
none_found terms found fields other (inl same) none wide = subst (StatesNone terms) (sym same) none
none_found terms found fields other (inr same) none wide = subst (StatesNone terms) (sym same) (none_stated terms other wide)

module _ (terms : Terms) (cut whole : Rows) (wide : SameToWide cut whole) where
  -- where the cut text begins with records, so does the whole
  begins : (events : List Event) (fields : List (List ℕ)) (later : Rows) (begin : BeginWith terms cut events (fields ∷ later))
      → Behind begin.before fields wide.other whole
  begins events fields later begin =
      subst (Behind begin.before fields wide.other) (sym wide.whole_is)
      (behind begin.before wide.before fields wide.first wide.other later wide.later (sym wide.cut_is ∙ begin.whole))

  whole_begins : (events : List Event) (fields : List (List ℕ)) (later : Rows) (begin : BeginWith terms cut events (fields ∷ later))
      → (at : Behind begin.before fields wide.other whole) → BeginWith terms whole events (at.found ∷ at.later)
  whole_begins events fields later begin at = record { before = begin.before; whole = at.is; states = begin.states; few = begin.few }

  cut_log : (events : List Event) → AreLog terms cut events → AreLog terms whole events
  cut_log events log =
      absurd (no_log terms wide.before wide.first events wide.first_wide (subst (λ (l : Rows). AllState terms l events) wide.cut_is log.0))

  cut_fault : (number : ℕ) → IsFirstFault terms cut number → IsFirstFault terms whole number
  cut_fault number (events, fields, later, begin, none, few, is) =
      let at = begins events fields later begin in
      (events, at.found, at.later, whole_begins events fields later begin at, none_found terms at.found fields wide.other at.same none wide.other_wide, few, is)

  cut_many : AreTooMany terms cut → AreTooMany terms whole
  cut_many (events, fields, later, begin, many) =
      let at = begins events fields later begin in (events, at.found, at.later, whole_begins events fields later begin at, many)

  cut_stop : (stop : LogStop) → IsStop terms cut stop → IsStop terms whole stop
  cut_stop (Form number) is = cut_fault number is
  cut_stop (Limit kind count) is = (cut_many is.0, is.1, is.2)
  cut_stop Memory is = is

pub log_alike : (terms : Terms) (cut whole : Rows) → ReadsAlike cut whole → (events : List Event) → AreLog terms cut events → AreLog terms whole events
log_alike terms cut whole (inl same) events log = subst (λ (l : Rows). AreLog terms l events) same log
log_alike terms cut whole (inr wide) events log = cut_log terms cut whole wide events log

pub stop_alike : (terms : Terms) (cut whole : Rows) → ReadsAlike cut whole → (stop : LogStop) → IsStop terms cut stop → IsStop terms whole stop
stop_alike terms cut whole (inl same) stop is = subst (λ (l : Rows). IsStop terms l stop) same is
stop_alike terms cut whole (inr wide) stop is = cut_stop terms cut whole wide stop is
