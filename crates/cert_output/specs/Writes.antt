-- What a call did that was to add a text to the end of a name's file.
use Rattle.std.specs.Prelude.{◌≡◌, ℕ, ◌<◌, ◌≤◌, List, ◌++◌, length, take, Result, Ok, Err}
use Rattle.cca_base.specs.Faults.{Rose}
use Rattle.cca_base.specs.Files.{Adds, CountsOnly, Folder}
use Rattle.cca_base.specs.Sink.{HasRoom}
use Rattle.cert_output.specs.declared.write.CutShort.{CutShort}

-- it added all of it
pub record AddsAll (name : List ℕ) (old new : Folder) (text : List ℕ) : Type 0 where
  pub adds : Adds name old new text (length text)
  pub quiet : new.append_faults ≡ old.append_faults
  pub gave : new.gave ≡ old.gave
  pub loads : new.load_faults ≡ old.load_faults

-- an append failed, and that many bytes at its start were added, but not all
pub record AddsSome (name : List ℕ) (old new : Folder) (text : List ℕ) : Type 0 where
  pub count : ℕ
  pub part : count < length text
  pub adds : Adds name old new text count
  pub counts : CountsOnly name old.append_faults new.append_faults
  pub gave : new.gave ≡ old.gave
  pub loads : new.load_faults ≡ old.load_faults
  pub cause : Rose (old.append_faults name) (new.append_faults name)
  pub no_room : HasRoom (old.room name) (length text) → ⊥

-- If these bytes waited and the text came after them, the first bytes of both were added to the file, and these wait now.
pub record Passes (name : List ℕ) (old new : Folder) (before now text : List ℕ) : Type 0 where
  pub sent : List ℕ
  pub adds : AddsAll name old new sent
  pub split : before ++ text ≡ sent ++ now

-- that many bytes of the room wait after the text now, or an append failed
abbrev pub TakesText : List ℕ → Folder → Folder → List ℕ → List ℕ → List ℕ → Result ℕ CutShort → Type 0
TakesText name old new before room text (Ok n) = (n ≤ length room) × Passes name old new before (take n room) text
TakesText name old new before room text (Err stop) = AddsSome name old new (before ++ text)
