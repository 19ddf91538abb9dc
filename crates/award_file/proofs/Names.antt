-- Names, and the keys of a map.
use Rattle.std.proofs.Common.{Bool, List, None, Option, Some, String, [], ap, arith, false, get_or, length, map, not, refl, string_bytes, subst, suc}
use Rattle.std.proofs.Common.{sym, true, zero, ℕ, ◌++◌, ◌+◌, ◌-◌, ◌<◌, ◌∙◌, ◌∷◌, ◌≡◌, ◌≤◌}
use Rattle.std.specs.List.{position, position_or_len, prefix_len, list_any, IsDistinct}
use Rattle.std.proofs.lemmas.List.{length-map, map-append, get_or-map}
use Rattle.std.proofs.lemmas.List.Quantifiers.{position-Some}
use Rattle.std.proofs.lemmas.List.Sums.{position_or_len_is}
use Rattle.std.proofs.lemmas.Bool.{lt-ltb, true≢false, not-true, false_from_ne_true, cond-true}
use Rattle.std.proofs.lemmas.Map.Keys.{IsDistinct-push, IsDistinct-from_apart, apart_from_distinct}
use Rattle.std.proofs.lemmas.Slice.Eq.{bytes_eq-Decides}
use Rattle.std.specs.Cmp.Lexicographic.{nat_list_eq_equiv}
use Rattle.std.specs.String.{string_eq}
use Rattle.std.proofs.lemmas.Map.Made.{is_some-lookup}
use Rattle.std.specs.Str.{bytes_eq}
use Rattle.std.specs.Option.{is_some}
use Rattle.std.specs.declared.alloc.Global.{Global}
use Rattle.std.specs.Map.{keys_of}
use Rattle.indexmap.specs.IndexMap.{IndexMap, get, get_by, keys, insert_entry}
use Rattle.indexmap.proofs.CallerLemmas.{insert_entry-new}
use Rattle.auction_rules.specs.Terms.{Entrant}
use Rattle.award_file.specs.declared.entrants.Entrant.{Entrant as Entered}
use Rattle.award_file.specs.Award.{AreNamedApart, bidder_at, entrant_with, from_one, is_stranger, name_of, names_of, number_among}
use Rattle.award_file.specs.Fields.{entrant_value}

prefix_len-map : {A B : Type 0} (p : B → Bool) (f : A → B) (xs : List A) → prefix_len p (map f xs) ≡ prefix_len (λ x. p (f x)) xs
prefix_len-map p f [] = refl
prefix_len-map p f (x ∷ xs) = rw (prefix_len-map p f xs)

-- the first image that passes a test is at the place of the first element whose image passes it
pub position-map : {A B : Type 0} (p : B → Bool) (f : A → B) (xs : List A) → position p (map f xs) ≡ position (λ x. p (f x)) xs
position-map p f xs = rw (prefix_len-map (λ b. not (p b)) f xs, length-map xs f)

list_any-map : {A B : Type 0} (p : B → Bool) (f : A → B) (xs : List A) → list_any p (map f xs) ≡ list_any (λ x. p (f x)) xs
list_any-map p f [] = refl
list_any-map p f (x ∷ xs) = rw (list_any-map p f xs)

-- the names of bidders are the keys
pub names-view : (es : List (String Global × Entered)) → names_of (map entrant_value es) ≡ map string_bytes (keys_of es)
names-view [] = refl
names-view (e ∷ es) = ap (λ t. string_bytes e.0 ∷ t) (names-view es)

-- a stranger is a text that a look-up doesn't find
pub stranger-is : {S : Type 0} (m : IndexMap (String Global) Entered S) (name : List ℕ) → is_stranger name (names_of (map entrant_value m.entries)) ≡ not
    (is_some (get_by (λ k. bytes_eq name (string_bytes k)) m))
stranger-is m name = ap not (ap (list_any (bytes_eq name)) (names-view m.entries) ∙ list_any-map (bytes_eq name) string_bytes (keys m)
    ∙ sym (is_some-lookup (λ k. bytes_eq name (string_bytes k)) m.entries))

-- a bidder more
pub view-more : (es : List (String Global × Entered)) (e : String Global × Entered) → map entrant_value (es ++ e ∷ []) ≡ map entrant_value es
    ++ entrant_value e ∷ []
view-more [] e = refl
view-more (x ∷ es) e = ap (λ t. entrant_value x ∷ t) (view-more es e)

-- what an insertion of a new name makes of the bidders
pub pushed : {S : Type 0} (m n : IndexMap (String Global) Entered S) (name : String Global) (entered : Entered) → get string_eq m name ≡ None
    → n.entries ≡ insert_entry string_eq m.entries name entered → map entrant_value n.entries ≡ map entrant_value m.entries
    ++ entrant_value (name, entered) ∷ []
pushed m n name entered none is = ap (map entrant_value) (is ∙ insert_entry-new string_eq m name entered none) ∙ view-more m.entries (name, entered)

-- no bidder is named as another if there is none
pub apart-none : (bidders : List Entrant) → [] ≡ bidders → AreNamedApart bidders
apart-none bidders none = subst AreNamedApart none (IsDistinct-from_apart bytes_eq [] (λ i j d less inside. absurd (omega arith)))

-- bidders stay named apart with a stranger after them
pub apart-more : (bidders : List Entrant) (e : Entrant) → AreNamedApart bidders → is_stranger e.name (names_of bidders) ≡ true
    → AreNamedApart (bidders ++ e ∷ [])
apart-more bidders e apart new =
    subst (λ names. IsDistinct bytes_eq names) (sym (map-append name_of bidders (e ∷ [])))
    (IsDistinct-push nat_list_eq_equiv (names_of bidders) e.name apart (not-true (list_any (bytes_eq e.name) (names_of bidders)) new))

-- the name of a bidder, by its place
pub name-at : (bidders : List Entrant) (i : ℕ) → i < length bidders → get_or (names_of bidders) i [] ≡ (get_or bidders i (entrant_with [] 0 [])).name
name-at bidders i inside = get_or-map name_of bidders i (entrant_with [] 0 []) [] inside

number_found-by : (o : Option ℕ) (bidders : List Entrant) (name : List ℕ) → position (bytes_eq name) (names_of bidders) ≡ o → 0 < from_one o
    → (bidder_at bidders (from_one o)).name ≡ name
number_found-by None bidders name is some = absurd (omega arith)
number_found-by (Some i) bidders name is some =
    let at = position-Some (bytes_eq name) (names_of bidders) i [] is in
    let inside : i < length bidders = omega (arith, at.0, length-map bidders name_of) in
    let back : i + 1 - 1 ≡ i = omega arith in
    rw back (sym (name-at bidders i inside) ∙ sym ((bytes_eq-Decides name (get_or (names_of bidders) i [])).0 at.1))

-- the bidder of a number that isn't 0 has the name
pub number-found : (bidders : List Entrant) (name : List ℕ) → 0 < number_among name (names_of bidders)
    → (bidder_at bidders (number_among name (names_of bidders))).name ≡ name
number-found bidders name some = number_found-by (position (bytes_eq name) (names_of bidders)) bidders name refl some

-- if names occur once, a name has the number of its bidder
pub number-only : (bidders : List Entrant) (name : List ℕ) (j : ℕ) → AreNamedApart bidders → 1 ≤ j → j ≤ length bidders → (bidder_at bidders j).name ≡ name
    → number_among name (names_of bidders) ≡ j
number-only bidders name zero apart low high is = absurd (omega arith)
number-only bidders name (suc i) apart low high is =
    let back : suc i - 1 ≡ i = omega arith in
    let inside : i < length (names_of bidders) = omega (arith, length-map bidders name_of) in
    let own : get_or (names_of bidders) i [] ≡ name = name-at bidders i (omega arith) ∙ (rw back at is) in
    let here : bytes_eq name (get_or (names_of bidders) i []) ≡ true = (bytes_eq-Decides name (get_or (names_of bidders) i [])).1 (sym own) in
    let before : (k : ℕ) → k < i → bytes_eq name (get_or (names_of bidders) k []) ≡ false = λ k less.
    false_from_ne_true (bytes_eq name (get_or (names_of bidders) k []))
    (λ same. true≢false (sym ((bytes_eq-Decides (get_or (names_of bidders) k []) (get_or (names_of bidders) i [])).1
    (sym ((bytes_eq-Decides name (get_or (names_of bidders) k [])).0 same) ∙ sym own)) ∙ apart_from_distinct bytes_eq
    (names_of bidders) k i [] apart less inside)) in
    let place : position_or_len (bytes_eq name) (names_of bidders) ≡ i = position_or_len_is (bytes_eq name) (names_of bidders) i [] (omega arith) before
    (λ less. here) in
    let below : position_or_len (bytes_eq name) (names_of bidders) < length (names_of bidders) = rw place inside in
    ap from_one (cond-true _ (Some (position_or_len (bytes_eq name) (names_of bidders))) None (lt-ltb _ _ below)) ∙ (omega (arith, place))
