-- How the program ends.
use Rattle.std.specs.Prelude.{◌≡◌, ℕ, List}
use Rattle.cca_base.specs.Files.{Folder}
use Rattle.cca_base.specs.Sink.{Output}
use Rattle.cca_cli.specs.Code.{code_of}
use Rattle.cca_cli.specs.declared.status.Status.{Status}
use Rattle.cca_run.specs.Runs.{Runs}

-- A run with these arguments over the old files and the old output ended with a status of this code, and left the new files and
-- the new output.
pub record EndsAs (words : List (List ℕ)) (old new : Folder) (before now : Output) (code : ℕ) : Type 0 where
  pub status : Status
  pub runs : Runs words old new before now status
  pub is : code ≡ code_of status
