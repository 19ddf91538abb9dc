-- Records with more fields than any line of a log has, and how far a text is read that has one.
use Rattle.std.specs.Prelude.{◌≡◌, ◌⊎◌, ◌<◌, ℕ, zero, suc, List, [], ◌∷◌, ◌++◌, length}
use Rattle.csv.specs.declared.parser.State.{State}
use Rattle.csv.specs.declared.parser.State.TheVariants as state
use Rattle.csv.specs.declared.parser.Action.{Action}
use Rattle.csv.specs.declared.parser.Action.TheVariants as action
use Rattle.log_file.specs.declared.wide.Place.{Place}
use Rattle.log_file.specs.declared.wide.Place.TheVariants.{Between, Start, Plain, Quoted, Closed}
use Rattle.log_file.specs.declared.wide.Ended.{Ended}
use Rattle.log_file.specs.declared.wide.Ended.TheVariants.{Nothing, Field, Record}

-- the reader of csv is at this place of a record
abbrev pub At : Place → State → Type 0
At Between s = (s ≡ state.StartRecord) ⊎ (s ≡ state.AfterCr)
At Start s = s ≡ state.StartField
At Plain s = s ≡ state.InField
At Quoted s = s ≡ state.InQuoted
At Closed s = s ≡ state.AfterQuote

-- what an action of the reader of csv ends
abbrev pub Ends : Ended → Action → Type 0
Ends Nothing a = (a ≡ action.Skip) ⊎ (a ≡ action.Copy)
Ends Field a = a ≡ action.EndField
Ends Record a = a ≡ action.EndRecord

-- how many fields of a record have ended, after a byte that ends this
abbrev pub count_after : Ended → ℕ → ℕ
count_after Nothing count = count
count_after Field count = suc count
count_after Record count = zero

-- Both are the same records up to the first that has more than four fields, and if one of them has such a record, so has the
-- other. The first one ends with it.
pub record SameToWide (cut whole : List (List (List ℕ))) : Type 0 where
  pub before : List (List (List ℕ))
  pub first : List (List ℕ)
  pub other : List (List ℕ)
  pub later : List (List (List ℕ))
  pub cut_is : cut ≡ before ++ (first ∷ [])
  pub whole_is : whole ≡ before ++ (other ∷ later)
  pub first_wide : 4 < length first
  pub other_wide : 4 < length other

-- nothing was cut, or what was cut is after a record that states nothing
abbrev pub ReadsAlike : List (List (List ℕ)) → List (List (List ℕ)) → Type 0
ReadsAlike cut whole = (cut ≡ whole) ⊎ SameToWide cut whole
