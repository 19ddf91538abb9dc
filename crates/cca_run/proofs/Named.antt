-- The names in the table of files.
use Rattle.std.proofs.Common.{inl, inr, ◌≡◌, ℕ, zero, suc, Bool, Some, List, [], ◌∷◌, map, subst, arith}
use Rattle.std.specs.Prelude.{Contains, find, filter}
use Rattle.std.specs.Option.{option_map}
use Rattle.std.specs.List.{AllByRecursion}
use Rattle.std.proofs.lemmas.Bool.{cases_Bool}
use Rattle.cca_cli.specs.Command.{CommandValue, FileUse, appended_files, input_as, inputs_of, is_kind, output_as, outputs_of, read_files}
use Rattle.cca_cli.specs.declared.status.FileKind.{FileKind}

-- the name of the file that is found is among the names
found : (q : FileUse → Bool) (files : List FileUse) (name : List ℕ) → option_map (λ f. f.name) (find q files) ≡ Some name
    → Contains (map (λ f. f.name) files) name
found q [] name is = absurd cc
found q (f ∷ files) name is =
    elim (cases_Bool (q f)) [
      | inl e ↦ (let same : Some f.name ≡ Some name = rw e at is in (0, omega arith, cc))
      | inr e ↦ (let rest : option_map (λ f. f.name) (find q files) ≡ Some name = rw e at is in let w = found q files name rest in
          (suc w.0, (let l = w.1 in omega (arith, l)), w.2))
    ]

-- what holds of all names holds of those that pass a test
kept : (p : FileUse → Bool) (P : List ℕ → Type 0) (files : List FileUse) → AllByRecursion (λ f. P f.name) files
    → AllByRecursion (λ f. P f.name) (filter p files)
kept p P [] all = tt
kept p P (f ∷ files) all =
    elim (cases_Bool (p f)) [
      | inl e ↦ rw e (all.0, kept p P files all.1)
      | inr e ↦ rw e (kept p P files all.1)
    ]

-- what holds of all names holds of one
one : (P : List ℕ → Type 0) (files : List FileUse) (name : List ℕ) → AllByRecursion (λ f. P f.name) files → Contains (map (λ f. f.name) files) name → P name
one P [] name all (k, lt, is) = absurd (omega (arith, lt))
one P (f ∷ files) name all (zero, lt, is) = subst P (let same : f.name ≡ name = cc in same) all.0
one P (f ∷ files) name all (suc k, lt, is) = one P files name all.1 (k, omega (arith, lt), is)

-- the output of a kind is among the outputs
pub output-among : (command : CommandValue) (kind : FileKind) (name : List ℕ) → output_as command kind ≡ Some name → Contains (outputs_of command) name
output-among command kind name is = found (λ f. is_kind kind f.kind) (appended_files command) name is

-- the input of a kind is among the inputs
pub input-among : (command : CommandValue) (kind : FileKind) (name : List ℕ) → input_as command kind ≡ Some name → Contains (inputs_of command) name
input-among command kind name is = found (λ f. is_kind kind f.kind) (read_files command) name is
