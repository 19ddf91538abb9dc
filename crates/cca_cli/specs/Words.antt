-- What a command of the program says.
use Rattle.std.specs.Prelude.{ℕ, Bool, false, List, [], ◌∷◌, Contains, IsTrue, length, take, if◌then◌else◌}
use Rattle.std.specs.List.{AllByRecursion}
use Rattle.cca_base.specs.Files.{Folder}
use Rattle.cca_cli.specs.declared.kind.Flags.{Flags}
use Rattle.cca_cli.specs.declared.kind.Flags.TheVariants as flags
use Rattle.cca_cli.specs.declared.kind.Kind.{Kind}
use Rattle.cca_cli.specs.declared.price_form.PriceForm.{PriceForm}
use Rattle.cca_cli.specs.declared.words.Command.{Command}
use Rattle.cca_cli.specs.Command.{CommandValue, files_of, form_with, plain, row}

-- what the flags leave of a form
abbrev pub form_kept : Flags → PriceForm → PriceForm
form_kept flags.None form = plain
form_kept flags.Rounds form = form_with form.rounds false
form_kept flags.Form form = form

-- A command of a kind. What the kind has no use for is left out: names after its files' names, what its flags don't ask for, a
-- number.
abbrev pub command_with : Kind → List (List ℕ) → PriceForm → ℕ → CommandValue
command_with kind names form number = record {
  kind = kind;
  names = take (length (row kind).files) names;
  form = form_kept (row kind).flags form;
  number = if (row kind).number then number else 0;
}

abbrev pub command_value : Command → CommandValue
command_value c = command_with c.kind (c.first.now ∷ c.second.now ∷ c.third.now ∷ []) c.form c.number

-- the names of its files are among the arguments
abbrev pub AreAmong : List (List ℕ) → CommandValue → Type 0
AreAmong words command = AllByRecursion (λ f. Contains words f.name) (files_of command)

-- the files know the names of the command
abbrev pub KnowsFiles : Folder → CommandValue → Type 0
KnowsFiles folder command = AllByRecursion (λ f. IsTrue (folder.knows f.name)) (files_of command)
