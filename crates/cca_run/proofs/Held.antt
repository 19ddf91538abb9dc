-- Some files hold what the loads of a command gave.
use Rattle.std.proofs.Common.{◌≡◌, ℕ, zero, suc, Bool, true, false, Option, Some, None, List, [], ◌∷◌, length, map, take, refl, sym, subst}
use Rattle.std.specs.Prelude.{◌&&◌, ◌||◌, not, if◌then◌else◌}
use Rattle.std.specs.Str.{bytes_eq}
use Rattle.std.proofs.lemmas.Slice.Eq.{bytes_eq-Decides}
use Rattle.cca_base.specs.Files.{Agrees, Content, Folder, Hold}
use Rattle.cca_cli.specs.Command.{are_file_words, is_among, is_file_word}
use Rattle.cca_commands.specs.ReadFaults.{Loaded}
use Rattle.cca_run.proofs.WordsApart.{and-both, neither, not-true}

-- what these contents say of a name, the first one of the name
abbrev pub content_in : List Content → List ℕ → Option (List ℕ)
content_in [] name = None
content_in (c ∷ rest) name = if bytes_eq c.name name then Some c.bytes else content_in rest name

-- contents of other names don't change with one more first
hold-behind : (c : Content) (files : List ℕ → Option (List ℕ)) (rest : List Content) → is_among c.name (map (λ d. d.name) rest) ≡ false → Hold files rest
    → Hold (λ name. if bytes_eq c.name name then Some c.bytes else files name) rest
hold-behind c files [] apart hold = tt
hold-behind c files (d ∷ rest) apart hold =
    let parts = neither (bytes_eq c.name d.name) (is_among c.name (map (λ e. e.name) rest)) apart in
    (rw parts.0 hold.0, hold-behind c files rest parts.1 hold.1)

-- contents whose names differ are held
pub hold-apart : (contents : List Content) → are_file_words (map (λ c. c.name) contents) ≡ true → Hold (content_in contents) contents
hold-apart [] apart = tt
hold-apart (c ∷ rest) apart =
    let parts = and-both (is_file_word c.name) (not (is_among c.name (map (λ d. d.name) rest)) && are_file_words (map (λ d. d.name) rest)) apart in
    let behind = and-both (not (is_among c.name (map (λ d. d.name) rest))) (are_file_words (map (λ d. d.name) rest)) parts.1 in
    let same : bytes_eq c.name c.name ≡ true = (bytes_eq-Decides c.name c.name).1 refl in
    (rw same refl, hold-behind c (content_in rest) rest (not-true (is_among c.name (map (λ d. d.name) rest)) behind.0) (hold-apart rest behind.1))

-- the first of names that differ do
front-among : (f : List ℕ) (k : ℕ) (names : List (List ℕ)) → is_among f names ≡ false → is_among f (take k names) ≡ false
front-among f zero names none = refl
front-among f (suc k) [] none = refl
front-among f (suc k) (g ∷ names) none =
    elim-or (bytes_eq f g) (is_among f names) (is_among f (take k names)) none (front-among f k names)
  where
    elim-or : (a b c : Bool) → (a || b) ≡ false → (b ≡ false → c ≡ false) → (a || c) ≡ false
    elim-or true b c is on = absurd cc
    elim-or false b c is on = on is

pub front-apart : (k : ℕ) (names : List (List ℕ)) → are_file_words names ≡ true → are_file_words (take k names) ≡ true
front-apart zero names apart = refl
front-apart (suc k) [] apart = refl
front-apart (suc k) (f ∷ names) apart =
    let parts = and-both (is_file_word f) (not (is_among f names) && are_file_words names) apart in
    let behind = and-both (not (is_among f names)) (are_file_words names) parts.1 in
    join (is_file_word f) (is_among f (take k names)) (are_file_words (take k names)) parts.0 (front-among f k names (not-true
    (is_among f names) behind.0)) (front-apart k names behind.1)
  where
    join : (a b c : Bool) → a ≡ true → b ≡ false → c ≡ true → (a && (not b && c)) ≡ true
    join true true c one two three = absurd cc
    join true false c one two three = three
    join false b c one two three = absurd cc

-- some files agree with what was loaded under names that differ
pub some-agree : (names : List (List ℕ)) (old new : Folder) → are_file_words names ≡ true → Loaded names old new → (given : List ℕ
    → Option (List ℕ)) × Agrees given old new
some-agree names old new apart l = (
  content_in l.contents,
  l.gave.agree (content_in l.contents) (hold-apart l.contents (subst (λ (ns : List (List ℕ)). are_file_words ns ≡ true)
      (sym l.first) (front-apart (length l.contents) names apart))),
)
