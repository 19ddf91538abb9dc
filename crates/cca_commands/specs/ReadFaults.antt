-- What was loaded, the cause of a fault of reading, and which counts of faults may rise.
use Rattle.std.specs.Prelude.{◌≡◌, ◌≤◌, ℕ, IsSome, Option, Some, List, [], ◌∷◌, ◌++◌, Contains, length, map, take}
use Rattle.std.specs.List.{AllByRecursion}
use Rattle.cca_base.specs.Faults.{Rose}
use Rattle.cca_base.specs.Files.{Agrees, Content, Folder, GaveOf, given_since}
use Rattle.cca_base.specs.Given.{Given}
use Rattle.cca_cli.specs.Command.{CommandValue, contents_of, input_as, missing}
use Rattle.cca_cli.specs.Outcome.{stopped}
use Rattle.cca_cli.specs.declared.status.FileKind.{FileKind}
use Rattle.cca_cli.specs.declared.status.Status.TheVariants.{ReadFault}
use Rattle.cca_commands.specs.Gives.{CommandGives}

-- All steps before the input of this kind is read pass: with that input missing, the command would stop at it.
abbrev pub IsReached : CommandValue → (FileKind → Option (List ℕ)) → FileKind → Type 0
IsReached command contents kind = CommandGives command (missing kind contents) (stopped (ReadFault kind))

-- the command reads a file of this kind, a load of which failed, if no room is reported, and all that comes before it passed
pub record FailsToRead (command : CommandValue) (old new : Folder) (kind : FileKind) : Type 0 where
  pub name : List ℕ
  pub input : input_as command kind ≡ Some name
  pub rose : Rose (old.load_faults name) (new.load_faults name)
  pub no_room : IsSome (old.room name) → ⊥
  pub reached : (files : List ℕ → Option (List ℕ)) → Agrees files old new → IsReached command (contents_of command files) kind

-- no count falls, and only the counts of these names may rise
pub record CountsAmong (names : List (List ℕ)) (old new : List ℕ → ℕ) : Type 0 where
  pub not_less : (name : List ℕ) → old name ≤ new name
  pub elsewhere : (name : List ℕ) → (Contains names name → ⊥) → new name ≡ old name

-- These loads, the last one first, were of these names, one name after the other: all loads of a name came before the loads of
-- the next.
abbrev pub AreInOrder : List (List ℕ) → List Given → Type 0
AreInOrder [] loads = loads ≡ []
AreInOrder (name ∷ names) loads = (later earlier : List Given) × (loads ≡ later ++ earlier) × AllByRecursion (λ g. g.name ≡ name) earlier
    × AreInOrder names later

-- The loads in between were of the first of these names, one name after the other, and gave bytes of files with these contents.
pub record Loaded (names : List (List ℕ)) (old new : Folder) : Type 0 where
  pub contents : List Content
  pub first : map (λ c. c.name) contents ≡ take (length contents) names
  pub order : AreInOrder (map (λ c. c.name) contents) (given_since old new)
  pub gave : GaveOf contents old new
