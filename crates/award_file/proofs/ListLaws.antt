-- A list of tables, read table by table.
use Rattle.std.proofs.Common.{BTreeMap, Global, List, None, Option, String, [], ap, append_assoc, drop, get_or, length, map, rules, subst, sym, ℕ}
use Rattle.std.proofs.Common.{◌++◌, ◌+◌, ◌<◌, ◌∙◌, ◌∷◌, ◌≡◌}
use Rattle.std.specs.Option.{option_or}
use Rattle.std.proofs.lemmas.List.{map-append}
use Rattle.toml.specs.Data.{Data, table, item, Members}
use Rattle.toml.specs.View.{view, items_view, table_view}
use Rattle.toml.specs.declared.value.Value.{Value, Table, the_lemmas}
use Rattle.toml.proofs.Views.{items_view-drop, view-Table}
use Rattle.award_file.specs.declared.read.AwardStop.{AwardStop}
use Rattle.award_file.specs.declared.read.AwardStop.TheVariants.{Text, Field, Limit, Memory}
use Rattle.award_file.specs.Reading.{IsFault}
use Rattle.award_file.specs.Stated.{tables_of}
use Rattle.award_file.specs.Walk.{Fault, tables_fault}

-- an element that is no table is left out
pub left-out : (vs : List Value) (i : ℕ) (v : Value) → i < length vs → v ≡ get_or vs i v → ((m : BTreeMap (String Global) Value) → v ≡ Table m → ⊥)
    → tables_of (items_view (drop (i + 1) vs)) ≡ tables_of (items_view (drop i vs))
left-out vs i v lt at other =
    let d : view v ≡ view (get_or vs i v) = ap view at in
    let here : items_view (drop i vs) ≡ item (view v) (items_view (drop (i + 1) vs)) = rw d (items_view-drop vs i v lt) in
    rw here (search (rules, the_lemmas))

-- the stop at the first of two faults
pub first-stops : (f g : Option Fault) (e : AwardStop) → IsFault f e → IsFault (option_or f g) e
first-stops f g Text h = absurd h
first-stops f g (Field number entry) h = rw h
first-stops f g (Limit kind count) h = absurd h
first-stops f g Memory h = tt

-- the table at an index, and those after it
pub table-here : (vs : List Value) (i : ℕ) (v : Value) (m : BTreeMap (String Global) Value) → i < length vs → v ≡ get_or vs i v → v ≡ Table m
    → tables_of (items_view (drop i vs)) ≡ table_view m ∷ tables_of (items_view (drop (i + 1) vs))
table-here vs i v m lt at is =
    let here : view (get_or vs i v) ≡ table (table_view m) = ap view (sym at ∙ is) ∙ view-Table m in
    ap tables_of (items_view-drop vs i v lt) ∙ ap (λ (d : Data). tables_of (item d (items_view (drop (i + 1) vs)))) here

module _ {A : Type 0} (fault : List A → Members → Option Fault) (stated : Members → A) where
  -- a table that stops the walk
  pub stops-here : (before : List A) (t : Members) (now later : List Members) (e : AwardStop) (all : Option Fault) → now ≡ t ∷ later
      → tables_fault fault stated before now ≡ all → IsFault (fault before t) e → IsFault all e
  stops-here before t now later e all is same h =
      let first : IsFault (tables_fault fault stated before (t ∷ later)) e = first-stops (fault before t) _ e h in
      subst (λ (o : Option Fault). IsFault o e) (ap (tables_fault fault stated before) (sym is) ∙ same) first

  -- a table that the walk passes
  pub passes-here : (before : List A) (t : Members) (now later : List Members) (all : Option Fault) → now ≡ t ∷ later
      → tables_fault fault stated before now ≡ all → fault before t ≡ None → tables_fault fault stated (before ++ stated t ∷ []) later ≡ all
  passes-here before t now later all is same none =
      let first : tables_fault fault stated before (t ∷ later) ≡ tables_fault fault stated (before ++ stated t ∷ []) later = rw none in
      sym first ∙ ap (tables_fault fault stated before) (sym is) ∙ same

-- what is read goes on with the table's value
pub reads-here : {B : Type 0} (value : Members → B) (read : List B) (t : Members) (now later : List Members) (all : List B) → now ≡ t ∷ later
    → read ++ map value now ≡ all → (read ++ value t ∷ []) ++ map value later ≡ all
reads-here value read t now later all is same = append_assoc read (value t ∷ []) (map value later) ∙ ap (λ (ts : List Members). read ++ map value ts) (sym is)
    ∙ same

-- a part of what is read, with one more
pub part-more : {B C : Type 0} (part : B → C) (read : List B) (x : B) (y : C) → part x ≡ y → map part (read ++ x ∷ []) ≡ map part read ++ y ∷ []
part-more {C = C} part read x y is = map-append part read (x ∷ []) ∙ ap (λ (z : C). map part read ++ z ∷ []) is
