-- From a file of bytes to the value of an input.
use Rattle.std.specs.Prelude.{◌≡◌, ◌⊎◌, ◌≤◌, ◌<◌, ◌+◌, ℕ, IsSome, Option, Some, List, length}
use Rattle.limits.specs.declared.LimitKind.TheVariants.{Bytes}
use Rattle.cca_base.specs.Faults.{Rose}
use Rattle.cca_base.specs.Files.{Agrees, CountsOnly, Folder, GaveAll, GaveSome, KeepsFiles}
use Rattle.cca_cli.specs.declared.status.FileKind.{FileKind}
use Rattle.cca_cli.specs.declared.status.Status.{Status}
use Rattle.cca_cli.specs.declared.status.Status.TheVariants.{Done, No, Words, Refused, ReadFault, WriteFault, Memory, Limit}

-- a stop that the bytes of the files give
abbrev pub IsStop : Status → Type 0
IsStop Done = ⊥
IsStop (No kind test place) = Unit {0}
IsStop Words = ⊥
IsStop (Refused file place entry) = Unit {0}
IsStop (ReadFault file) = ⊥
IsStop (WriteFault file) = ⊥
IsStop Memory = ⊥
IsStop (Limit which count) = Unit {0}

-- The value is stated by bytes within the limit, and these are what the loads in between gave of the file.
pub record IsRead {V : Type 0} (most : ℕ) (states : List ℕ → V → Type 0) (name : List ℕ) (old new : Folder) (v : V) : Type 0 where
  pub bytes : List ℕ
  pub short : length bytes ≤ most
  pub says : states bytes v
  pub here : GaveAll name old new bytes

-- the bytes stop a run with this status: more than the limit do, and else it is the text that does
pub record Halts (most : ℕ) (halts : List ℕ → Status → Type 0) (file : Option (List ℕ)) (status : Status) : Type 0 where
  pub bytes : List ℕ
  pub here : file ≡ Some bytes
  pub text : length bytes ≤ most → halts bytes status
  pub long : most < length bytes → status ≡ Limit Bytes (most + 1)

-- Why an input has no value: out of memory, a failed load of it (never if its room is reported), or its bytes, in any files
-- that agree with what the loads in between gave.
abbrev pub InputStops : FileKind → ℕ → (List ℕ → Status → Type 0) → List ℕ → Folder → Folder → Status → Type 0
InputStops kind most halts name old new status =
    (status ≡ Memory)
    ⊎ (((status ≡ ReadFault kind) × Rose (old.load_faults name) (new.load_faults name) × (IsSome (old.room name) → ⊥))
    ⊎ (IsStop status
    × ((files : List ℕ → Option (List ℕ)) → Agrees files old new → Halts most halts (files name) status)))

-- No file changed, only the count of failed loads of this name may have risen, and what was given is part of some bytes of the
-- name.
pub record OnlyLoads (name : List ℕ) (old new : Folder) : Type 0 where
  pub kept : KeepsFiles old new
  pub count : CountsOnly name old.load_faults new.load_faults
  pub appends : new.append_faults ≡ old.append_faults
  pub some : GaveSome name old new
