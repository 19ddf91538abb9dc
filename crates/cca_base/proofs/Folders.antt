-- What a change of one entry means for the files of a list.
use Rattle.std.proofs.Common.{All, Bool, Err, IfSome, List, None, Ok, OnErr, Option, Result, Some, [], ap, arith, cond, false, find, is_some, refl}
use Rattle.std.proofs.Common.{subst, sym, true, unwrap_or, ℕ, ◌-◌, ◌∙◌, ◌∷◌, ◌≡◌, ◌≤◌}
use Rattle.std.specs.Option.{option_map, option_and_then, option_map_or}
use Rattle.std.proofs.lemmas.List.Elements.{All-head, All-tail}
use Rattle.cca_base.specs.Files.{KeepsFiles, CountsOnly, Becomes}
use Rattle.cca_base.specs.Entries.{Seen, entry_of, folder_of}
use Rattle.cca_base.proofs.Entries.{ChangesOne, views_same}

-- what holds anyway holds after an error
pub on_err : {X E : Type 0} (r : Result X E) {P : Type 0} → P → OnErr r P
on_err (Ok x) p = cc
on_err (Err e) p = p

-- in no room that is reported
pub no_room : (n : ℕ) → IfSome None (λ r. n ≤ r)
no_room n = cc

-- the name that an entry shows
abbrev pub name_by : {A : Type 0} → (A → Seen) → A → List ℕ
name_by seen f = (seen f).name

module _ {A : Type 0} (seen : A → Seen) (told : Bool) (name : List ℕ) (xs ys : List A) (old new : A)
    (change : ChangesOne name (entry_of seen xs) (entry_of seen ys) old new) where
  -- a change that leaves bytes and room changes no file
  pub folder_keeps : (seen new).file ≡ (seen old).file → (seen new).room ≡ (seen old).room → KeepsFiles (folder_of seen told xs) (folder_of seen told ys)
  folder_keeps file room = record {
    knows = views_same (λ (o : Option A). is_some o) name (entry_of seen xs) (entry_of seen ys) old new change refl;
    told = refl;
    file = views_same (λ (o : Option A). option_and_then (λ f. (seen f).file) o) name (entry_of seen xs) (entry_of seen ys) old new change file;
    room = views_same (λ (o : Option A). option_and_then (λ f. (seen f).room) o) name (entry_of seen xs) (entry_of seen ys) old new change room;
    took = refl;
    since = [];
    gave = refl;
    agrees = λ tells. tt;
  }

  -- a change of bytes and room changes this file alone
  pub folder_becomes : (bytes : Option (List ℕ)) (n : ℕ) → (seen new).file ≡ bytes → IfSome (seen old).room (λ r. n ≤ r)
      → (seen new).room ≡ option_map (λ r. r - n) (seen old).room → Becomes name (folder_of seen told xs) (folder_of seen told ys) bytes [] n
  folder_becomes bytes n file fits room =
      let room_of : Option A → Option ℕ = λ o. option_and_then (λ f. (seen f).room) o in
      let file_of : Option A → Option (List ℕ) = λ o. option_and_then (λ f. (seen f).file) o in
      let was : room_of (entry_of seen xs name) ≡ (seen old).room = ap room_of change.was in
      record {
        knows = views_same (λ (o : Option A). is_some o) name (entry_of seen xs) (entry_of seen ys) old new change refl;
        told = refl;
        file = λ told. ap file_of change.is ∙ file;
        other_files = λ other ne. ap file_of (change.others other ne);
        took = refl;
        other_took = λ other ne. refl;
        fits = subst (λ (o : Option ℕ). IfSome o (λ r. n ≤ r)) (sym was) fits;
        room = ap room_of change.is ∙ room ∙ sym (ap (option_map (λ r. r - n)) was);
        other_rooms = λ other ne. ap room_of (change.others other ne);
      }

  -- what a file held, by its entry
  pub held_before : unwrap_or (seen old).file [] ≡ unwrap_or ((folder_of seen told xs).file name) []
  held_before = sym (ap (λ (o : Option A). unwrap_or (option_and_then (λ f. (seen f).file) o) []) change.was)

module _ {A : Type 0} (fresh : A → Type 0) (p : A → Bool) where
  -- no count of a fresh entry has risen
  pub fresh_count : (count : A → ℕ) → ((f : A) → fresh f → count f ≡ 0) → (xs : List A) → All fresh xs → option_map_or count (find p xs) 0 ≡ 0
  fresh_count count none [] all = refl
  fresh_count count none (x ∷ xs) all =
      elim (p x) as (λ (b : Bool). option_map_or count (cond b (Some x) (find p xs)) 0 ≡ 0) [
        | true ↦ none x (All-head fresh x xs all)
        | false ↦ fresh_count count none xs (All-tail fresh x xs all)
      ]

  -- what every fresh entry shows is shown if there is one
  pub fresh_here : {B : Type 0} (view : A → Option B) (b : Option B) → ((f : A) → fresh f → view f ≡ b) → (xs : List A) → All fresh xs
      → is_some (find p xs) ≡ true → option_and_then view (find p xs) ≡ b
  fresh_here view b is [] all = λ some. absurd (cc)
  fresh_here view b is (x ∷ xs) all =
      elim (p x) as (λ (b' : Bool). is_some (cond b' (Some x) (find p xs)) ≡ true → option_and_then view (cond b' (Some x) (find p xs)) ≡ b) [
        | true ↦ λ some. is x (All-head fresh x xs all)
        | false ↦ λ some. fresh_here view b is xs (All-tail fresh x xs all) some
      ]

  -- what no fresh entry shows isn't shown
  pub fresh_nowhere : {B : Type 0} (view : A → Option B) → ((f : A) → fresh f → view f ≡ None) → (xs : List A) → All fresh xs
      → option_and_then view (find p xs) ≡ None
  fresh_nowhere view is [] all = refl
  fresh_nowhere view is (x ∷ xs) all =
      elim (p x) as (λ (b : Bool). option_and_then view (cond b (Some x) (find p xs)) ≡ None) [
        | true ↦ is x (All-head fresh x xs all)
        | false ↦ fresh_nowhere view is xs (All-tail fresh x xs all)
      ]

-- a count that stopped rising
pub counts_still : (name : List ℕ) (a b : List ℕ → ℕ) → b ≡ a → CountsOnly name a b
counts_still name a b same = record {
  here = omega (arith, ap (λ (f : List ℕ → ℕ). f name) same);
  elsewhere = λ other ne. ap (λ (f : List ℕ → ℕ). f other) same;
}
