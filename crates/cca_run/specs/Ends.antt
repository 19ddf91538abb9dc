-- How a run ends that has a command, and one whose words say none.
use Rattle.std.specs.Prelude.{◌≡◌, ◌≢◌, ◌⊎◌, ◌<◌, ◌≤◌, ◌++◌, ℕ, Bool, true, false, IsTrue, Option, Some, None, Result, Ok, Err, List, length}
use Rattle.cca_base.specs.Faults.{Rose}
use Rattle.cca_base.specs.Files.{Agrees, Folder, KeepsFiles}
use Rattle.cca_base.specs.Sink.{HasRoom, Output, Puts}
use Rattle.cca_cli.specs.Command.{CommandValue, output_as, outputs_of}
use Rattle.cca_cli.specs.Outcome.{Outcome}
use Rattle.cca_cli.specs.StatusLine.{status_line}
use Rattle.cca_cli.specs.Statuses.{IsDecided, IsHindered, KeepsAll}
use Rattle.cca_cli.specs.declared.file_text.FileText.{FileText}
use Rattle.cca_cli.specs.declared.status.FileKind.{FileKind}
use Rattle.cca_cli.specs.declared.status.FileKind.TheVariants.{Out}
use Rattle.cca_cli.specs.declared.status.Status.{Status}
use Rattle.cca_cli.specs.declared.status.Status.TheVariants.{Done, ReadFault, Words, WriteFault}
use Rattle.cca_commands.specs.Gives.{WordsGive}
use Rattle.cca_commands.specs.ReadFaults.{CountsAmong, Loaded}
use Rattle.cca_run.specs.Run.{Appended, AppendsAll, AppendsUpTo, Changes, IsHindrance, IsReadFault, IsWriteFault, Prints, inputs, outputs}
use Rattle.cca_commands.specs.Works.{text_before}
use Rattle.cca_commands.specs.declared.work.Stop.{Stop}
use Rattle.cca_commands.specs.declared.work.Work.{Work}

-- an append to the command's file of this kind failed, and the texts were appended up to it
pub record FailsAt (command : CommandValue) (appended : List FileText) (old new : Folder) (kind : FileKind) : Type 0 where
  pub name : List ℕ
  pub output : output_as command kind ≡ Some name
  pub no_out : kind ≢ Out
  pub rose : Rose (old.append_faults name) (new.append_faults name)
  pub part : AppendsUpTo command kind appended old new

-- no count of failed loads changed. Of the counts of failed appends only the command's outputs' changed, and none fell
pub record OnlyAppends (command : CommandValue) (old new : Folder) : Type 0 where
  pub gave : new.gave ≡ old.gave
  pub loads : new.load_faults ≡ old.load_faults
  pub appends : CountsAmong (outputs_of command) old.append_faults new.append_faults

-- these texts were appended, or an append failed at one of them
abbrev pub AppendEnds : CommandValue → List FileText → Folder → Folder → Result Unit FileKind → Type 0
AppendEnds command texts old new (Ok u) = AppendsAll command texts old new
AppendEnds command texts old new (Err kind) = FailsAt command texts old new kind

-- whether the whole text was written. Else a prefix of it and not all was written, no room for it is reported, and a fault of
-- the output was counted
abbrev pub Written : Output → Output → List ℕ → Bool → Type 0
Written old new text true = Puts old new text (length text)
Written old new text false = Rose old.faults new.faults × ((n : ℕ) × (n < length text) × Puts old new text n)
    × (HasRoom old.room (length text) → ⊥)

-- How a run ends, by its command if the arguments state one. The fields are the clauses of the top call.
pub record RunEnds (command : Option CommandValue) (old new : Folder) (before now : Output) (result : Status) : Type 0 where
  pub words : result ≡ Words → command ≡ None
  pub read_fault : (kind : FileKind) → result ≡ ReadFault kind → IsReadFault command old new kind
  pub write_fault : (kind : FileKind) → result ≡ WriteFault kind → IsWriteFault command old new before now kind
  pub answer : (files : List ℕ → Option (List ℕ)) → Agrees files old new → IsDecided result
      → (o : Outcome) × WordsGive command files o × (o.status ≡ result)
      × Puts before now o.printed (length o.printed) × Appended command o.appended old new
  pub line : (result ≡ Words) ⊎ IsHindered result → Puts before now (status_line result) (length (status_line result))
  pub front : result ≡ WriteFault Out → (text : List ℕ) × (n : ℕ) × (n < length text) × Puts before now text n
      × ((files : List ℕ → Option (List ℕ)) → Agrees files old new
      → ((o : Outcome) × WordsGive command files o × (text ≡ o.printed) × Appended command o.appended old new)
      ⊎ ((status : Status) × IsHindrance command old new status × (text ≡ status_line status)))
      × (HasRoom before.room (length text) → ⊥)
  pub kept : KeepsAll result → KeepsFiles old new
  pub told : IsTrue old.told → Agrees old.file old new
  pub loaded : Loaded (inputs command) old new
  pub files : Changes command old new
  pub loads : CountsAmong (inputs command) old.load_faults new.load_faults
  pub appends : CountsAmong (outputs command) old.append_faults new.append_faults

-- How a command ends that has its work: all was appended and printed; or an append failed, and its line was printed; or a put failed, and
-- a prefix of what was to be printed.
pub record FinishEnds (command : CommandValue) (old new : Folder) (before now : Output) (printed : List ℕ) (appended : List FileText)
    (result : Status) : Type 0 where
  pub done : result ≡ Done → Puts before now printed (length printed) × AppendsAll command appended old new
  pub others : (result ≡ Done) ⊎ ((kind : FileKind) × (result ≡ WriteFault kind))
  pub cause : (kind : FileKind) → result ≡ WriteFault kind
      → ((kind ≡ Out) × Rose before.faults now.faults) ⊎ (FailsAt command appended old new kind)
  pub line : IsHindered result → Puts before now (status_line result) (length (status_line result))
  pub front : result ≡ WriteFault Out → (text : List ℕ) × (n : ℕ) × (n < length text) × Puts before now text n
      × (((text ≡ printed) × AppendsAll command appended old new)
      ⊎ ((kind : FileKind) × FailsAt command appended old new kind × (text ≡ status_line (WriteFault kind))))
      × (HasRoom before.room (length text) → ⊥)
  pub files : AppendsAll command appended old new ⊎ ((kind : FileKind) × AppendsUpTo command kind appended old new)
  pub counts : OnlyAppends command old new
  pub faults : before.faults ≤ now.faults

-- How a command ends by its work; or, if it has none, no file changes, and the text and the line of why are printed.
abbrev pub CommandEnds : CommandValue → Folder → Folder → Output → Output → Result Work Stop → Status → Type 0
CommandEnds command old new before now (Ok work) result =
    FinishEnds command old new before now work.printed work.appended.items result
CommandEnds command old new before now (Err stop) result =
    (new ≡ old) × Prints before now (text_before stop ++ status_line stop.status) stop.status result
