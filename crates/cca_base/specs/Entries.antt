-- Files of known names as the entries of a list.
use Rattle.std.specs.Prelude.{◌≡◌, ℕ, Bool, Option, Some, None, List, [], IsSome, find, is_some, option_and_then, unwrap_or}
use Rattle.std.specs.Option.{option_map_or}
use Rattle.std.specs.Str.{bytes_eq}
use Rattle.cca_base.specs.Files.{Folder}
use Rattle.cca_base.specs.Given.{Given, bytes_under}

-- what one entry means: its name, its bytes, its counts of failed calls and its room
pub record Seen : Type 0 where
  pub name : List ℕ
  pub file : Option (List ℕ)
  pub load_faults : ℕ
  pub append_faults : ℕ
  pub room : Option ℕ

-- the first entry of a name
abbrev pub entry_of : {A : Type 0} → (A → Seen) → List A → List ℕ → Option A
entry_of seen files name = find (λ f. bytes_eq (seen f).name name) files

abbrev pub folder_of : {A : Type 0} → (A → Seen) → Bool → List A → Folder
folder_of seen told files = record {
  knows = λ name. is_some (entry_of seen files name);
  told = told;
  file = λ name. option_and_then (λ f. (seen f).file) (entry_of seen files name);
  load_faults = λ name. option_map_or (λ f. (seen f).load_faults) (entry_of seen files name) 0;
  append_faults = λ name. option_map_or (λ f. (seen f).append_faults) (entry_of seen files name) 0;
  room = λ name. option_and_then (λ f. (seen f).room) (entry_of seen files name);
  gave = [];
  took = λ name. [];
}

-- the same files, which gave this and took this
abbrev pub with_calls : Folder → List Given → List Given → Folder
with_calls folder gave took = record folder { gave = gave; took = bytes_under took }

-- files that are reported and gave this: what they took is at the end of their bytes
abbrev pub with_gave : Folder → List Given → Folder
with_gave folder gave = record folder { gave = gave; took = λ name. unwrap_or (folder.file name) [] }

-- all but the count of failed loads is as before
pub record KeepsButLoads (old new : Seen) : Type 0 where
  pub name : new.name ≡ old.name
  pub file : new.file ≡ old.file
  pub append_faults : new.append_faults ≡ old.append_faults
  pub room : new.room ≡ old.room

-- all but the count of failed appends is as before
pub record KeepsButAppends (old new : Seen) : Type 0 where
  pub name : new.name ≡ old.name
  pub file : new.file ≡ old.file
  pub load_faults : new.load_faults ≡ old.load_faults
  pub room : new.room ≡ old.room

-- an entry with a reported room isn't missing
pub roomy_by : {A : Type 0} (seen : A → Seen) → ((f : A) → IsSome (seen f).room → IsSome (seen f).file) → (o : Option A)
    → IsSome (option_and_then (λ f. (seen f).room) o) → IsSome (option_and_then (λ f. (seen f).file) o)
roomy_by seen by None some = some
roomy_by seen by (Some f) some = by f some
