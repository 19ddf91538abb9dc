-- Records have one reading.
use Rattle.std.proofs.Common.{◌≡◌, ℕ, suc, ◌<◌, List, [], ◌∷◌, ◌++◌, length, refl, sym, ap, subst, ◌∙◌, arith, length-append}
use Rattle.auction_rules.specs.Terms.{Terms}
use Rattle.auction_rules.specs.declared.Event.{Event}
use Rattle.log_file.specs.LogForm.{States, StatesNone}
use Rattle.log_file.specs.LogReading.{AllState, AreLog, AreTooMany, IsFirstFault}
use Rattle.log_file.proofs.OneEvent.{one_event}
use Rattle.log_file.proofs.LogLaws.{Rows}

states_one : (terms : Terms) (rows : Rows) (es fs : List Event) → AllState terms rows es → AllState terms rows fs → es ≡ fs
states_one terms [] [] [] s t = refl
states_one terms [] [] (f ∷ fs) s t = absurd t
states_one terms [] (e ∷ es) fs s t = absurd s
states_one terms (r ∷ rows) [] fs s t = absurd s
states_one terms (r ∷ rows) (e ∷ es) [] s t = absurd t
states_one terms (r ∷ rows) (e ∷ es) (f ∷ fs) s t =
    let first = one_event terms r e f s.0 t.0 in
    let rest = states_one terms rows es fs s.1 t.1 in cc (first, rest)

states_length : (terms : Terms) (rows : Rows) (es : List Event) → AllState terms rows es → length rows ≡ length es
states_length terms [] [] s = refl
states_length terms [] (e ∷ es) s = absurd s
states_length terms (r ∷ rows) [] s = absurd s
states_length terms (r ∷ rows) (e ∷ es) s = ap suc (states_length terms rows es s.1)

-- records are the log of one list of events at most
pub one_log : (terms : Terms) (rows : Rows) (es fs : List Event) → AreLog terms rows es → AreLog terms rows fs → es ≡ fs
one_log terms rows es fs s t = states_one terms rows es fs s.0 t.0

-- if a record states nothing, no list of events is that of all records
short : (terms : Terms) (before : Rows) (es : List Event) (r : List (List ℕ)) (later : Rows) (gs : List Event) → AllState terms before es → StatesNone terms r
    → AllState terms (before ++ r ∷ later) gs → ⊥
short terms [] [] r later [] s none all = all
short terms [] [] r later (g ∷ gs) s none all = none g all.0
short terms [] (e ∷ es) r later gs s none all = s
short terms (x ∷ before) [] r later gs s none all = s
short terms (x ∷ before) (e ∷ es) r later [] s none all = all
short terms (x ∷ before) (e ∷ es) r later (g ∷ gs) s none all = short terms before es r later gs s.1 none all.1

-- records that are a log have no faulty record
pub log_or_fault : (terms : Terms) (rows : Rows) (es : List Event) (n : ℕ) → AreLog terms rows es → IsFirstFault terms rows n → ⊥
log_or_fault terms rows es n log (events, r, later, had, none, few, is) = short terms had.before events r later es had.states none
    (subst (λ (l : Rows). AllState terms l es) had.whole log.0)

-- records that are a log aren't too many
pub log_or_many : (terms : Terms) (rows : Rows) (es : List Event) → AreLog terms rows es → AreTooMany terms rows → ⊥
log_or_many terms rows es log (events, r, later, had, many) =
    omega (
      arith,
      log.1,
      many,
      states_length terms rows es log.0,
      states_length terms had.before events had.states,
      ap length had.whole,
      length-append had.before (r ∷ later),
    )

-- a record that states nothing isn't after as many as state an event
not_before : (terms : Terms) (before other : Rows) (es fs : List Event) (r : List (List ℕ)) (later left : Rows) → AllState terms before es
    → StatesNone terms r → AllState terms other fs
    → before ++ r ∷ later ≡ other ++ left → length es < length fs → ⊥
not_before terms [] [] [] [] r later left s none t is less = omega (arith, less)
not_before terms [] [] [] (f ∷ fs) r later left s none t is less = t
not_before terms [] [] (e ∷ es) fs r later left s none t is less = s
not_before terms [] (y ∷ other) [] [] r later left s none t is less = t
not_before terms [] (y ∷ other) [] (f ∷ fs) r later left s none t is less = let same : y ≡ r = cc in
    none f (subst (λ (x : List (List ℕ)). States terms x f) same t.0)
not_before terms [] (y ∷ other) (e ∷ es) fs r later left s none t is less = s
not_before terms (x ∷ before) other [] fs r later left s none t is less = s
not_before terms (x ∷ before) [] (e ∷ es) [] r later left s none t is less = omega (arith, less)
not_before terms (x ∷ before) [] (e ∷ es) (f ∷ fs) r later left s none t is less = t
not_before terms (x ∷ before) (y ∷ other) (e ∷ es) [] r later left s none t is less = t
not_before terms (x ∷ before) (y ∷ other) (e ∷ es) (f ∷ fs) r later left s none t is less =
    let tails : before ++ r ∷ later ≡ other ++ left = cc in
    not_before terms before other es fs r later left s.1 none t.1 tails (omega (arith, less))

-- records with a first faulty record aren't too many
pub fault_or_many : (terms : Terms) (rows : Rows) (n : ℕ) → IsFirstFault terms rows n → AreTooMany terms rows → ⊥
fault_or_many terms rows n (events, r, later, had, none, few, is) (others, x, left, too, many) =
    not_before terms had.before too.before events others r later (x ∷ left) had.states none too.states (sym had.whole ∙ too.whole) (omega (arith, few, many))

same_count : (m n : ℕ) → (m < n → ⊥) → (n < m → ⊥) → suc m ≡ suc n
same_count m n up down = omega (arith, up, down)

-- records have one first faulty record at most
pub one_fault : (terms : Terms) (rows : Rows) (m n : ℕ) → IsFirstFault terms rows m → IsFirstFault terms rows n → m ≡ n
one_fault terms rows m n (events, r, later, had, none, few, is) (others, x, left, too, nothing, low, also) =
    let up : length events < length others → ⊥ = not_before terms had.before too.before events others r later (x ∷ left) had.states none too.states
    (sym had.whole ∙ too.whole) in
    let down : length others < length events → ⊥ = not_before terms too.before had.before others events x left (r ∷ later) too.states nothing had.states
    (sym too.whole ∙ had.whole) in
    is ∙ same_count (length events) (length others) up down ∙ sym also
