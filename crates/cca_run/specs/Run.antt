-- How a run ends: the causes of faults, and what is left in the files and in the output.
use Rattle.std.specs.Prelude.{◌≡◌, ◌⊎◌, ◌<◌, ℕ, Option, Some, None, List, [], ◌∷◌, ◌++◌, Contains, length}
use Rattle.cca_base.specs.Faults.{Rose}
use Rattle.cca_base.specs.Files.{Adds, Agrees, Folder, KeepsFiles}
use Rattle.cca_base.specs.Sink.{HasRoom, Output, Puts}
use Rattle.cca_cli.specs.Command.{CommandValue, command_of, inputs_of, output_as, outputs_of}
use Rattle.cca_cli.specs.Outcome.{Outcome}
use Rattle.cca_cli.specs.StatusLine.{status_line}
use Rattle.cca_cli.specs.declared.file_text.FileText.{FileText}
use Rattle.cca_cli.specs.declared.status.FileKind.{FileKind}
use Rattle.cca_cli.specs.declared.status.FileKind.TheVariants.{Award, Cert, Edits, Log, Out, Slots, Weights}
use Rattle.cca_cli.specs.declared.status.FileKind.TheVariants as file_kind
use Rattle.cca_cli.specs.declared.status.Status.{Status}
use Rattle.cca_cli.specs.declared.status.Status.TheVariants.{Done, Limit, Memory, No, ReadFault, Refused, Words, WriteFault}
use Rattle.cca_commands.specs.Gives.{FilesGive, Gives}
use Rattle.cca_commands.specs.ReadFaults.{FailsToRead}

abbrev pub IsReadFault : Option CommandValue → Folder → Folder → FileKind → Type 0
IsReadFault None old new kind = ⊥
IsReadFault (Some command) old new kind = FailsToRead command old new kind

-- the whole text was appended to the command's file of its kind
pub record AppendsWhole (command : CommandValue) (appended : FileText) (old new : Folder) : Type 0 where
  pub name : List ℕ
  pub output : output_as command appended.kind ≡ Some name
  pub whole : Adds name old new appended.text (length appended.text)

-- these texts were appended whole, one after the other, and no other file changed
abbrev pub AppendsAll : CommandValue → List FileText → Folder → Folder → Type 0
AppendsAll command [] old new = KeepsFiles old new
AppendsAll command (first ∷ rest) old new = (between : Folder) × AppendsWhole command first old between
    × AppendsAll command rest between new

-- The texts before the text of this kind were appended whole. Of this one, which no reported room has space for, a part from
-- its start and not all was appended, and nothing of the texts after it. No other file changed.
pub record AppendsUpTo (command : CommandValue) (kind : FileKind) (appended : List FileText) (old new : Folder) : Type 0 where
  pub before : List FileText
  pub text : List ℕ
  pub behind : List FileText
  pub split : appended ≡ before ++ record { kind = kind; text = text } ∷ behind
  pub between : Folder
  pub whole : AppendsAll command before old between
  pub name : List ℕ
  pub output : output_as command kind ≡ Some name
  pub count : ℕ
  pub part : count < length text
  pub front : Adds name between new text count
  pub no_room : HasRoom (between.room name) (length text) → ⊥

-- The command appends to a file of this kind, and an append to it failed: all else was done, the texts before this one were
-- appended whole, and of this one a part from its start.
pub record FailsToWrite (command : CommandValue) (old new : Folder) (kind : FileKind) : Type 0 where
  pub name : List ℕ
  pub output : output_as command kind ≡ Some name
  pub rose : Rose (old.append_faults name) (new.append_faults name)
  pub appended : List FileText
  pub given : (files : List ℕ → Option (List ℕ)) → Agrees files old new
      → (o : Outcome) × FilesGive command files o × (o.status ≡ Done) × (o.appended ≡ appended)
  pub part : AppendsUpTo command kind appended old new

abbrev pub IsFileFault : Option CommandValue → Folder → Folder → FileKind → Type 0
IsFileFault None old new kind = ⊥
IsFileFault (Some command) old new kind = FailsToWrite command old new kind

abbrev pub IsWriteFault : Option CommandValue → Folder → Folder → Output → Output → FileKind → Type 0
IsWriteFault command old new before now Award = IsFileFault command old new Award
IsWriteFault command old new before now Log = IsFileFault command old new Log
IsWriteFault command old new before now file_kind.Book = IsFileFault command old new file_kind.Book
IsWriteFault command old new before now Cert = IsFileFault command old new Cert
IsWriteFault command old new before now Weights = IsFileFault command old new Weights
IsWriteFault command old new before now Slots = IsFileFault command old new Slots
IsWriteFault command old new before now Edits = IsFileFault command old new Edits
IsWriteFault command old new before now Out = Rose before.faults now.faults

-- words of the plain form
abbrev pub IsPlain : Option CommandValue → Type 0
IsPlain None = ⊥
IsPlain (Some command) = Unit {0}

-- a fault of a file or out of memory, each with its cause; no file changed but by the appends before a failed one
abbrev pub IsHindrance : Option CommandValue → Folder → Folder → Status → Type 0
IsHindrance command old new Done = ⊥
IsHindrance command old new (No kind test place) = ⊥
IsHindrance command old new Words = ⊥
IsHindrance command old new (Refused file place entry) = ⊥
IsHindrance command old new (ReadFault kind) = IsReadFault command old new kind × KeepsFiles old new
IsHindrance command old new (WriteFault kind) = IsFileFault command old new kind
IsHindrance command old new Memory = IsPlain command × KeepsFiles old new
IsHindrance command old new (Limit which count) = ⊥

-- what a command appends was appended whole
abbrev pub Appended : Option CommandValue → List FileText → Folder → Folder → Type 0
Appended None appended old new = KeepsFiles old new
Appended (Some command) appended old new = AppendsAll command appended old new

-- A text that was due to be printed: the text of the result, after all that it appends was appended, or the line of a fault
-- whose own cause is true.
abbrev pub IsDue : List (List ℕ) → (List ℕ → Option (List ℕ)) → Folder → Folder → List ℕ → Type 0
IsDue words files old new text =
    ((o : Outcome) × Gives words files o × (text ≡ o.printed) × Appended (command_of words) o.appended old new)
    ⊎ ((status : Status) × IsHindrance (command_of words) old new status × (text ≡ status_line status))

-- The texts that the command gives were appended, whole and in order, up to some place.
pub record Grows (command : CommandValue) (old new : Folder) : Type 0 where
  pub appended : List FileText
  pub given : (files : List ℕ → Option (List ℕ)) → Agrees files old new
      → (o : Outcome) × FilesGive command files o × (o.status ≡ Done) × (o.appended ≡ appended)
  pub grown : AppendsAll command appended old new ⊎ ((kind : FileKind) × AppendsUpTo command kind appended old new)

-- no file changed, or the command's files grew
abbrev pub Changes : Option CommandValue → Folder → Folder → Type 0
Changes None old new = KeepsFiles old new
Changes (Some command) old new = KeepsFiles old new ⊎ Grows command old new

-- the names of the files that are read, and of those that are appended to; none without a command
abbrev pub inputs : Option CommandValue → List (List ℕ)
inputs None = []
inputs (Some command) = inputs_of command

abbrev pub outputs : Option CommandValue → List (List ℕ)
outputs None = []
outputs (Some command) = outputs_of command

-- the whole text was written and this status returned. Or a prefix of it was written, no room is reported that is enough, and a
-- fault of the output was counted
abbrev pub Prints : Output → Output → List ℕ → Status → Status → Type 0
Prints old new text status result =
    ((result ≡ status) × Puts old new text (length text))
    ⊎ ((result ≡ WriteFault Out) × Rose old.faults new.faults × ((n : ℕ) × (n < length text) × Puts old new text n)
    × (HasRoom old.room (length text) → ⊥))

-- No fault was counted in the call: no count of failed loads of a file that the command reads rose, no count of failed appends
-- to a file that it appends to, and not the output's count.
pub record HasNoFault (command : Option CommandValue) (old new : Folder) (before now : Output) : Type 0 where
  pub loads : (name : List ℕ) → Contains (inputs command) name → Rose (old.load_faults name) (new.load_faults name) → ⊥
  pub appends : (name : List ℕ) → Contains (outputs command) name
      → Rose (old.append_faults name) (new.append_faults name) → ⊥
  pub puts : Rose before.faults now.faults → ⊥
