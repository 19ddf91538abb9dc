-- Into which file the output goes, and whether a word means it.
use Rattle.std.specs.Prelude.{◌≡◌, Bool, true, false, Result, Option, Some, None, IsOkAnd, List, [], ◌∷◌, ℕ, codes}
use Rattle.std.specs.declared.io.ErrorKind.{ErrorKind}
use Rattle.cca_base.specs.Made.{Made, tells}
use Rattle.cca_base.specs.declared.system.met.FileIdentity.{FileIdentity}
use Rattle.cca_base.specs.declared.system.met.Told.{Told}

-- the system was asked what the output is, which goes to this regular file, or to none
pub record IsOutput (file : Option FileIdentity) (old new : List Made) : Type 0 where
  pub answer : Result Told ErrorKind
  pub calls : new ≡ tells (codes "/proc/self/fd/1") answer ∷ old
  pub one : (f : FileIdentity) → file ≡ Some f → IsOkAnd answer (λ told. (told.is_regular ≡ true) × (told.file ≡ f))
  pub none : file ≡ None → IsOkAnd answer (λ told. told.is_regular ≡ true) → ⊥

-- the system was asked what the name means, and that is this file or not
pub record IsAsked (name : List ℕ) (file : FileIdentity) (is_file : Bool) (old new : List Made) : Type 0 where
  pub answer : Result Told ErrorKind
  pub calls : new ≡ tells name answer ∷ old
  pub yes : is_file ≡ true → IsOkAnd answer (λ told. told.file ≡ file)
  pub no : is_file ≡ false → IsOkAnd answer (λ told. told.file ≡ file) → ⊥

-- the system was asked what each of these names means, one after the other, and none meant this file
abbrev pub AreOthers : FileIdentity → List (List ℕ) → List Made → List Made → Type 0
AreOthers file [] old new = new ≡ old
AreOthers file (name ∷ names) old new = (asked : List Made) × IsAsked name file false old asked × AreOthers file names asked new

-- The output goes to no regular file, or the arguments are known and none of these names means it.
pub record IsFree (names : List (List ℕ)) (is_known : Bool) (old new : List Made) : Type 0 where
  pub file : Option FileIdentity
  pub asked : List Made
  pub output : IsOutput file old asked
  pub none : file ≡ None → new ≡ asked
  pub some : (f : FileIdentity) → file ≡ Some f → (is_known ≡ true) × AreOthers f names asked new

-- so it is of some names
abbrev pub IsFreeOfSome : List Made → List Made → Type 0
IsFreeOfSome old new = (names : List (List ℕ)) × (is_known : Bool) × IsFree names is_known old new
