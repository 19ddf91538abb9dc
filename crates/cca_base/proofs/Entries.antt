-- Lists of entries that have names: one entry is looked up, and one is changed.
use Rattle.std.proofs.Common.{AllPairs, Bool, List, Option, Some, [], ap, arith, cond, false, find, get_or, is_some, length, not, refl, suc, sym}
use Rattle.std.proofs.Common.{take, true, unwrap_or, ℕ, ◌++◌, ◌+◌, ◌<◌, ◌||◌, ◌∙◌, ◌∷◌, ◌≡◌, ◌≢◌, ◌≤◌}
use Rattle.std.proofs.Math.ListN.{set}
use Rattle.std.specs.List.{position_or_len, position, list_any}
use Rattle.std.specs.Option.{option_map_or}
use Rattle.std.specs.Str.{bytes_eq}
use Rattle.std.proofs.lemmas.Bool.{false_from_ne_true}
use Rattle.std.proofs.lemmas.Slice.Eq.{bytes_eq-Decides}
use Rattle.std.proofs.lemmas.List.Folds.{find-set, find_past, list_any_at, list_any_more, list_any-append}
use Rattle.std.proofs.lemmas.List.Quantifiers.{all_pairs_push}
use Rattle.std.proofs.Math.Bool.{or-false, or-true}
use Rattle.cca_base.specs.Faults.{Rose, one_more}
use Rattle.cca_base.specs.Files.{CountsOnly}

-- the first entry that passes, and where it stands
pub record Found {A : Type 0} (p : A → Bool) (xs : List A) : Type 0 where
  pub entry : A
  pub found : find p xs ≡ Some entry
  pub within : position_or_len p xs < length xs
  pub here : (d : A) → get_or xs (position_or_len p xs) d ≡ entry
  pub passes : p entry ≡ true

at_head : {A : Type 0} (p : A → Bool) (x : A) (xs : List A) → p x ≡ true → Found p (x ∷ xs)
at_head p x xs is =
    let first : position_or_len p (x ∷ xs) ≡ 0 = ap (λ (b : Bool). cond (not b) (1 + position_or_len p xs) 0) is in
    record {
      entry = x;
      found = ap (λ (b : Bool). cond b (Some x) (find p xs)) is;
      within = omega arith;
      here = λ d. ap (λ (k : ℕ). get_or (x ∷ xs) k d) first;
      passes = is;
    }

past_head : {A : Type 0} (p : A → Bool) (x : A) (xs : List A) → p x ≡ false → Found p xs → Found p (x ∷ xs)
past_head p x xs is rest =
    let next : position_or_len p (x ∷ xs) ≡ suc (position_or_len p xs) = ap (λ (b : Bool). cond (not b) (1 + position_or_len p xs) 0) is ∙ omega arith in
    record {
      entry = rest.entry;
      found = ap (λ (b : Bool). cond b (Some x) (find p xs)) is ∙ rest.found;
      within = omega (arith, rest.within);
      here = λ d. ap (λ (k : ℕ). get_or (x ∷ xs) k d) next ∙ rest.here d;
      passes = rest.passes;
    }

-- if an entry passes, there is a first that does, and its place
pub first_found : {A : Type 0} (p : A → Bool) (xs : List A) → is_some (find p xs) ≡ true → Found p xs
first_found p [] some = absurd (cc)
first_found p (x ∷ xs) some =
    elim (p x) as (λ (b : Bool). p x ≡ b → Found p (x ∷ xs)) [
      | true ↦ λ is. at_head p x xs is
      | false ↦ λ is. past_head p x xs is (first_found p xs (sym (ap (λ (b : Bool). is_some (cond b (Some x) (find p xs))) is) ∙ some))
    ] refl

-- the first entry of a name, by what gives an entry's name
abbrev pub named : {A : Type 0} → (A → List ℕ) → List ℕ → A → Bool
named name_of name x = bytes_eq (name_of x) name

-- one look-up changed, that of this name
pub record ChangesOne {A : Type 0} (name : List ℕ) (before after : List ℕ → Option A) (old new : A) : Type 0 where
  pub was : before name ≡ Some old
  pub is : after name ≡ Some new
  pub others : (other : List ℕ) → other ≢ name → after other ≡ before other

-- an entry of the same name was put in the place of the first of that name
pub set_changes : {A : Type 0} (name_of : A → List ℕ) (xs : List A) (name : List ℕ) (i : ℕ) (d y : A) → is_some (find (named name_of name) xs) ≡ true
    → i ≡ position_or_len (named name_of name) xs → name_of y ≡ name_of (get_or xs i d)
    → ChangesOne name (λ n. find (named name_of n) xs) (λ n. find (named name_of n) (set xs i y)) (get_or xs i d) y
set_changes name_of xs name i d y known first same =
    let at = first_found (named name_of name) xs known in
    let here : get_or xs i d ≡ at.entry = ap (λ (k : ℕ). get_or xs k d) first ∙ at.here d in
    let passes : bytes_eq (name_of (get_or xs i d)) name ≡ true = ap (named name_of name) here ∙ at.passes in
    let old_is : name_of (get_or xs i d) ≡ name = (bytes_eq-Decides (name_of (get_or xs i d)) name).0 passes in
    record {
      was = at.found ∙ ap Some (sym here);
      is = find-set (named name_of name) xs i y first (omega (arith, at.within)) (ap (λ (n : List ℕ). bytes_eq n name) same ∙ passes);
      others = λ other ne.
          let fails : bytes_eq (name_of (get_or xs i d)) other ≡ false = false_from_ne_true _
          (λ t. ne (sym ((bytes_eq-Decides (name_of (get_or xs i d)) other).0 t) ∙ old_is)) in
          find_past (named name_of other) xs i y d fails (ap (λ (n : List ℕ). bytes_eq n other) same ∙ fails);
    }

-- the entry at the first place of a known name
pub entry_here : {A : Type 0} (name_of : A → List ℕ) (xs : List A) (name : List ℕ) (i : ℕ) (d : A) → is_some (find (named name_of name) xs) ≡ true
    → i ≡ position_or_len (named name_of name) xs → find (named name_of name) xs ≡ Some (get_or xs i d)
entry_here name_of xs name i d known first =
    let at = first_found (named name_of name) xs known in
    at.found ∙ ap Some (sym (ap (λ (k : ℕ). get_or xs k d) first ∙ at.here d))

-- if an entry passes, the place of the first that does is in the list
pub place_within : {A : Type 0} (p : A → Bool) (xs : List A) → is_some (find p xs) ≡ true → position_or_len p xs < length xs
place_within p xs known = (first_found p xs known).within

-- the first place, out of what `position` gives
pub place_is : {A : Type 0} (p : A → Bool) (xs : List A) (o : Option ℕ) (i : ℕ) → is_some (find p xs) ≡ true → o ≡ position p xs → i ≡ unwrap_or o (length xs)
    → i ≡ position_or_len p xs
place_is p xs o i known at is =
    let within = place_within p xs known in
    let some : position p xs ≡ Some (position_or_len p xs) = grind arith in
    is ∙ ap (λ (r : Option ℕ). unwrap_or r (length xs)) (at ∙ some)

module _ {A : Type 0} (count : A → ℕ) (name : List ℕ) (before after : List ℕ → Option A) (old new : A) (change : ChangesOne name before after old new) where
  -- a count that rose, of an entry that was changed
  pub counts_only : count old ≤ count new → CountsOnly name (λ n. option_map_or count (before n) 0) (λ n. option_map_or count (after n) 0)
  counts_only le =
      let view : Option A → ℕ = λ o. option_map_or count o 0 in
      record {
        here = omega (arith, ap view change.was, ap view change.is);
        elsewhere = λ other ne. ap view (change.others other ne);
      }

  -- if the count of the changed entry rose, so did the count that its name looks up
  pub counts_rose : Rose (count old) (count new) → Rose (option_map_or count (before name) 0) (option_map_or count (after name) 0)
  counts_rose rose =
      let view : Option A → ℕ = λ o. option_map_or count o 0 in
      let was : view (before name) ≡ count old = ap view change.was in
      let is : view (after name) ≡ count new = ap view change.is in
      λ below. omega (arith, rose (omega arith))

  -- if the count of the changed entry became one more, so did the count that its name looks up
  pub counts_one : count new ≡ one_more (count old) → option_map_or count (after name) 0 ≡ one_more (option_map_or count (before name) 0)
  counts_one more =
      let view : Option A → ℕ = λ o. option_map_or count o 0 in
      ap view change.is ∙ more ∙ sym (ap (λ (o : Option A). one_more (view o)) change.was)

-- what reads both entries alike is the same of all names
pub views_same : {A B : Type 0} (view : Option A → B) (name : List ℕ) (before after : List ℕ → Option A) (old new : A)
    → ChangesOne name before after old new → view (Some new) ≡ view (Some old) → ◌≡◌ {A = List ℕ → B} (λ n. view (after n)) (λ n. view (before n))
views_same view name before after old new change same = λ i n. by_name n i
  where
    by_name : (n : List ℕ) → view (after n) ≡ view (before n)
    by_name n = elim (bytes_eq n name) as (λ (b : Bool). bytes_eq n name ≡ b → view (after n) ≡ view (before n)) [
      | true ↦ λ t.
          let here : n ≡ name = (bytes_eq-Decides n name).0 t in
          ap (λ (m : List ℕ). view (after m)) here ∙ ap view change.is ∙ same ∙ sym (ap view change.was) ∙ sym (ap (λ (m : List ℕ). view (before m)) here)
      | false ↦ λ f. ap view (change.others n (λ here. let t : bytes_eq n name ≡ true = (bytes_eq-Decides n name).1 here in cc))
    ] refl

-- a name is known if an entry of it is found
pub found_any : {A : Type 0} (p : A → Bool) (xs : List A) → is_some (find p xs) ≡ list_any p xs
found_any p [] = refl
found_any p (x ∷ xs) =
    elim (p x) as (λ (b : Bool). is_some (cond b (Some x) (find p xs)) ≡ (b || list_any p xs)) [
      | true ↦ refl
      | false ↦ found_any p xs
    ]

-- the names of the entries are those of the texts
abbrev pub AreNames : {A S : Type 0} → (A → List ℕ) → (S → List ℕ) → List A → List S → Type 0
AreNames name_of text_of xs texts = (q : List ℕ) → list_any (named name_of q) xs ≡ list_any (named text_of q) texts

-- one more text, whose name is among the entries
pub names_kept : {A S : Type 0} (name_of : A → List ℕ) (text_of : S → List ℕ) (xs : List A) (texts : List S) (i : ℕ) (d : S) → i < length texts
    → AreNames name_of text_of xs (take i texts) → list_any (named name_of (text_of (get_or texts i d))) xs ≡ true
    → AreNames name_of text_of xs (take (i + 1) texts)
names_kept name_of text_of xs texts i d lt names known q =
    let more : list_any (named text_of q) (take (i + 1) texts) ≡ (list_any (named text_of q) (take i texts) || bytes_eq (text_of (get_or texts i d)) q) =
    list_any_more (named text_of q) texts i d lt in
    elim (bytes_eq (text_of (get_or texts i d)) q) as (λ (b : Bool). bytes_eq (text_of (get_or texts i d)) q ≡ b
    → list_any (named name_of q) xs ≡ list_any (named text_of q) (take (i + 1) texts)) [
      | true ↦ λ t.
          let here : text_of (get_or texts i d) ≡ q = (bytes_eq-Decides (text_of (get_or texts i d)) q).0 t in
          let there : list_any (named name_of q) xs ≡ true = sym (ap (λ (n : List ℕ). list_any (named name_of n) xs) here) ∙ known in
          there ∙ sym (more ∙ ap (λ (b : Bool). list_any (named text_of q) (take i texts) || b) t ∙ or-true (list_any (named text_of q) (take i texts)))
      | false ↦ λ f. names q ∙ sym (more ∙ ap (λ (b : Bool). list_any (named text_of q) (take i texts) || b) f
          ∙ or-false (list_any (named text_of q) (take i texts)))
    ] refl

-- one more text, and an entry of its name
pub names_more : {A S : Type 0} (name_of : A → List ℕ) (text_of : S → List ℕ) (xs : List A) (y : A) (texts : List S) (i : ℕ) (d : S) → i < length texts
    → AreNames name_of text_of xs (take i texts) → name_of y ≡ text_of (get_or texts i d) → AreNames name_of text_of (xs ++ y ∷ []) (take (i + 1) texts)
names_more name_of text_of xs y texts i d lt names same q =
    list_any-append (named name_of q) xs (y ∷ [])
    ∙ ap (λ (b : Bool). list_any (named name_of q) xs || b) (or-false (bytes_eq (name_of y) q) ∙ ap (λ (n : List ℕ). bytes_eq n q) same)
    ∙ ap (λ (b : Bool). b || bytes_eq (text_of (get_or texts i d)) q) (names q)
    ∙ sym (list_any_more (named text_of q) texts i d lt)

-- no two entries have one name
abbrev pub AreApart : {A : Type 0} → (A → List ℕ) → List A → Type 0
AreApart name_of xs = AllPairs (λ x y. name_of x ≢ name_of y) xs

-- no two entries have one name after one more whose name none of them has
pub apart_more : {A : Type 0} (name_of : A → List ℕ) (xs : List A) (y : A) → AreApart name_of xs → list_any (named name_of (name_of y)) xs ≡ false
    → AreApart name_of (xs ++ y ∷ [])
apart_more name_of xs y apart none = all_pairs_push (λ x z. name_of x ≢ name_of z) xs y apart (λ k d lt same.
    let t : bytes_eq (name_of (get_or xs k d)) (name_of y) ≡ true = (bytes_eq-Decides (name_of (get_or xs k d)) (name_of y)).1 same in
    let some : list_any (named name_of (name_of y)) xs ≡ true = list_any_at (named name_of (name_of y)) xs k d lt t in
    cc)
