-- The room that a run needs in its files and in the output.
use Rattle.std.specs.Prelude.{ℕ, ◌+◌, Bool, false, IsSome, Option, Some, None, List, [], ◌∷◌, Contains, length, if◌then◌else◌}
use Rattle.std.specs.Option.{option_map_or}
use Rattle.std.specs.Str.{bytes_eq}
use Rattle.cca_base.specs.Files.{Folder}
use Rattle.cca_base.specs.Sink.{HasRoom, Output}
use Rattle.cca_cli.specs.Command.{CommandValue, command_of, output_as}
use Rattle.cca_cli.specs.Outcome.{Outcome}
use Rattle.cca_cli.specs.StatusLine.{status_line}
use Rattle.cca_cli.specs.declared.file_text.FileText.{FileText}
use Rattle.cca_cli.specs.declared.status.Status.TheVariants.{Memory}
use Rattle.cca_commands.specs.Gives.{Gives}
use Rattle.cca_run.specs.Run.{inputs, outputs}

-- the text goes to the command's file of this name
abbrev pub goes_to : CommandValue → List ℕ → FileText → Bool
goes_to command name text = option_map_or (bytes_eq name) (output_as command text.kind) false

-- how many bytes of these texts go to the command's file of this name
abbrev pub appended_to : CommandValue → List ℕ → List FileText → ℕ
appended_to command name [] = 0
appended_to command name (t ∷ texts) = (if goes_to command name t then length t.text else 0) + appended_to command name texts

-- that number for the arguments, which may state no command
abbrev pub told_to : Option CommandValue → List ℕ → List FileText → ℕ
told_to None name texts = 0
told_to (Some command) name texts = appended_to command name texts

-- Each file that is read reports a room, so no load of it fails. Each file that is appended to reports room for all that an
-- outcome of the arguments appends to it, and the output reports room for all that it prints, and for the line of out of
-- memory.
pub record HasRooms (words : List (List ℕ)) (old : Folder) (before : Output) : Type 0 where
  pub reads : (name : List ℕ) → Contains (inputs (command_of words)) name → IsSome (old.room name)
  pub appends : (o : Outcome) → Gives words old.file o → (name : List ℕ) → Contains (outputs (command_of words)) name
      → HasRoom (old.room name) (told_to (command_of words) name o.appended)
  pub prints : (o : Outcome) → Gives words old.file o → HasRoom before.room (length o.printed)
  pub line : HasRoom before.room (length (status_line Memory))
