-- The names of a command are among the words.
use Rattle.std.proofs.Common.{◌≡◌, ℕ, zero, suc, ◌-◌, ◌<◌, ◌≤◌, List, [], ◌∷◌, length, map, take, drop, refl, subst, arith}
use Rattle.std.specs.Prelude.{Contains}
use Rattle.std.specs.List.{AllByRecursion}
use Rattle.std.proofs.lemmas.List.{take_all}
use Rattle.cca_cli.specs.Command.{CommandValue, FileUse, files_named, files_of}
use Rattle.cca_cli.specs.Words.{AreAmong}
use Rattle.cca_cli.specs.declared.kind.Use.{Use}
use Rattle.cca_cli.specs.declared.status.FileKind.{FileKind}

-- names that are among words are among others that have them all
pub among-more : (ws vs : List (List ℕ)) (files : List FileUse) → ((x : List ℕ) → Contains ws x → Contains vs x)
    → AllByRecursion (λ u. Contains ws u.name) files → AllByRecursion (λ u. Contains vs u.name) files
among-more ws vs [] more all = tt
among-more ws vs (u ∷ files) more all = (more u.name all.0, among-more ws vs files more all.1)

later : (w : List ℕ) (ws : List (List ℕ)) (x : List ℕ) → Contains ws x → Contains (w ∷ ws) x
later w ws x (k, lt, is) = (suc k, omega (arith, lt), is)

-- the names of files are among themselves
pub among-own : (files : List (FileKind × Use)) (names : List (List ℕ)) → AllByRecursion (λ u. Contains names u.name) (files_named files names)
among-own [] names = tt
among-own (file ∷ files) [] = tt
among-own (file ∷ files) (name ∷ names) =
    ((0, omega arith, refl), among-more names (name ∷ names) (files_named files names) (later name names) (among-own files names))

-- what is among the first words is among all
front : {A : Type 0} (f : A → List ℕ) (n : ℕ) (ws : List A) (x : List ℕ) → Contains (map f (take n ws)) x → Contains (map f ws) x
front f zero ws x (k, lt, is) = absurd (omega (arith, lt))
front f (suc n) [] x (k, lt, is) = absurd (omega (arith, lt))
front f (suc n) (w ∷ ws) x (zero, lt, is) = (0, omega arith, is)
front f (suc n) (w ∷ ws) x (suc k, lt, is) = later (f w) (map f ws) x (front f n ws x (k, omega (arith, lt), is))

pub among-front : {A : Type 0} (f : A → List ℕ) (n : ℕ) (ws : List A) (c : CommandValue) → AreAmong (map f (take n ws)) c → AreAmong (map f ws) c
among-front f n ws c a = among-more (map f (take n ws)) (map f ws) (files_of c) (front f n ws) a

-- what follows the first is among all
behind : {A : Type 0} (f : A → List ℕ) (ws : List A) (x : List ℕ) → Contains (map f (drop 1 ws)) x → Contains (map f ws) x
behind f [] x (k, lt, is) = absurd (omega (arith, lt))
behind f (w ∷ ws) x c = later (f w) (map f ws) x c

rest-length : {A : Type 0} (ws : List A) → length (drop 1 ws) ≤ length ws - 1
rest-length [] = omega arith
rest-length (w ∷ ws) = omega arith

-- names after the first word are among all words
pub among-behind : {A : Type 0} (f : A → List ℕ) (ws : List A) (c : CommandValue) → AreAmong (map f (take (length ws - 1) (drop 1 ws))) c
    → AreAmong (map f ws) c
among-behind {A} f ws c a = among-more (map f (drop 1 ws)) (map f ws) (files_of c) (behind f ws) (subst (λ (rest : List A). AreAmong (map f rest) c)
    (take_all (length ws - 1) (drop 1 ws) (rest-length ws)) a)
