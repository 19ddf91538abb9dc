-- What the calls of the system have to be before a piece is reported as taken.
use Rattle.std.specs.Prelude.{◌≡◌, ◌≢◌, ◌⊎◌, is_none, ℕ, ℤ, Bool, true, false, Result, Ok, Err, List, ◌∷◌, codes, take, Option, Some, None, nat_eq, if◌then◌else◌}
use Rattle.std.specs.Str.Pattern.{RFindsChar}
use Rattle.std.specs.declared.io.ErrorKind.{ErrorKind}
use Rattle.std.specs.declared.io.ErrorKind.TheVariants.{NotFound}
use Rattle.cca_base.specs.Made.{Made, locks, opens_to_append, opens_to_read, reads, resolves, seeks, syncs, tells, tells_name, tells_open, writes}
use Rattle.cca_base.specs.declared.system.met.FileIdentity.{FileIdentity}
use Rattle.cca_base.specs.declared.system.met.Told.{Told}

-- what is before the last slash: the root if it is the first byte of the name, and the current folder if there is none
abbrev pub folder_before : List ℕ → Option (ℕ × ℕ) → List ℕ
folder_before name None = codes "."
folder_before name (Some at) = if nat_eq at.0 0 then codes "/" else take at.0 name

-- the system looks for the name in this folder
pub record IsFolderOf (name folder : List ℕ) : Type 0 where
  pub slash : Option (ℕ × ℕ)
  pub found : RFindsChar 47 name slash
  pub is : folder ≡ folder_before name slash

-- the folder was opened and synced
pub record IsSynced (folder : List ℕ) (old new : List Made) : Type 0 where
  pub descriptor : ℤ
  pub calls : new ≡ syncs descriptor true ∷ opens_to_read folder (Ok descriptor) ∷ old

-- The disk has a name: the folder that the name is in was synced. After a link it is the folder of the file that the link means.
pub record IsNameSynced (name : List ℕ) (old new : List Made) : Type 0 where
  pub told : Told
  pub path : List ℕ
  pub folder : List ℕ
  pub in_folder : IsFolderOf path folder
  pub plain : told.is_link ≡ false → (path ≡ name) × IsSynced folder (tells_name name (Ok told) ∷ old) new
  pub link : told.is_link ≡ true → IsSynced folder (resolves name path ∷ tells_name name (Ok told) ∷ old) new

-- The disk has the open file, and its name if that was new. After that the name meant this file.
pub record IsSettled (name : List ℕ) (descriptor : ℤ) (file : FileIdentity) (is_new : Bool) (old new : List Made) : Type 0 where
  pub told : Told
  pub same : told.file ≡ file
  pub synced : List Made
  pub new_name : is_new ≡ true → IsNameSynced name (syncs descriptor true ∷ old) synced
  pub old_name : is_new ≡ false → synced ≡ syncs descriptor true ∷ old
  pub calls : new ≡ tells name (Ok told) ∷ synced

-- These bytes were written to the open file, and a regular file was settled after that.
pub record IsWritten (name : List ℕ) (descriptor : ℤ) (file : FileIdentity) (is_regular is_new : Bool) (bytes : List ℕ) (old new : List Made) : Type 0 where
  pub regular : is_regular ≡ true → IsSettled name descriptor file is_new (writes descriptor (Ok bytes) ∷ old) new
  pub other : is_regular ≡ false → new ≡ writes descriptor (Ok bytes) ∷ old

-- the system was asked what the name means, and it meant this file, or none
pub record IsLookedAt (name : List ℕ) (file : Option FileIdentity) (old new : List Made) : Type 0 where
  pub answer : Result Told ErrorKind
  pub one : (f : FileIdentity) → file ≡ Some f → (told : Told) × (answer ≡ Ok told) × (told.file ≡ f)
  pub none : file ≡ None → answer ≡ Err NotFound
  pub calls : new ≡ tells name answer ∷ old

-- The file of the name was looked at by its name, opened to append to, looked at itself and, if it is regular, locked.
pub record IsOpened (name : List ℕ) (descriptor : ℤ) (before : Option FileIdentity) (file : FileIdentity) (is_regular : Bool) (old new : List Made)
    : Type 0 where
  pub looked : List Made
  pub meant : IsLookedAt name before old looked
  pub told : Told
  pub same : told.file ≡ file
  pub kind : told.is_regular ≡ is_regular
  pub regular : is_regular ≡ true
      → new ≡ locks descriptor true ∷ tells_open descriptor (Ok told) ∷ opens_to_append name (Ok descriptor) ∷ looked
  pub other : is_regular ≡ false → new ≡ tells_open descriptor (Ok told) ∷ opens_to_append name (Ok descriptor) ∷ looked

-- The bytes were read at this place of an open file. The position of a plain read is known to be there, or the file was moved
-- there first.
pub record IsReadAt (descriptor : ℤ) (position : Option ℕ) (at : ℕ) (bytes : List ℕ) (old new : List Made) : Type 0 where
  pub there : position ≡ Some at → new ≡ reads descriptor (Ok bytes) ∷ old
  pub moved : position ≢ Some at → new ≡ reads descriptor (Ok bytes) ∷ seeks descriptor at true ∷ old

-- the file was open already, or was opened now, and its name is new then if it meant no file
abbrev pub IsOpenOrOpened : List ℕ → ℤ → Option FileIdentity → FileIdentity → Bool → Bool → List Made → List Made → Type 0
IsOpenOrOpened name descriptor before file is_regular is_new old new =
    (new ≡ old) ⊎ (IsOpened name descriptor before file is_regular old new × (is_new ≡ is_none before))

-- These bytes were written to the file of the name, opened now or before, and settled after that.
pub record IsTaken (name bytes : List ℕ) (old new : List Made) : Type 0 where
  pub descriptor : ℤ
  pub before : Option FileIdentity
  pub file : FileIdentity
  pub is_regular : Bool
  pub is_new : Bool
  pub opened : List Made
  pub opening : IsOpenOrOpened name descriptor before file is_regular is_new old opened
  pub written : IsWritten name descriptor file is_regular is_new bytes opened new

-- the file was open already, or was opened and looked at now
abbrev pub IsReadyToRead : List ℕ → ℤ → List Made → List Made → Type 0
IsReadyToRead name descriptor old new =
    (new ≡ old) ⊎ ((told : Told) × (new ≡ tells_open descriptor (Ok told) ∷ opens_to_read name (Ok descriptor) ∷ old))

-- The bytes were read at this place of the file of the name, opened now or before.
pub record IsRead (name : List ℕ) (at : ℕ) (bytes : List ℕ) (old new : List Made) : Type 0 where
  pub descriptor : ℤ
  pub position : Option ℕ
  pub opened : List Made
  pub opening : IsReadyToRead name descriptor old opened
  pub read : IsReadAt descriptor position at bytes opened new
