-- A reader of csv between two records, and the records that it has left.
use Rattle.std.specs.Prelude.{◌≡◌, ℕ, ◌<◌, Bool, true, false, Option, Some, List, [], ◌∷◌, length}
use Rattle.csv.specs.Machine.{ends_at_end}
use Rattle.csv.specs.Reading.{Ready, default_config, is_flexible, reader_config, reader_state, reader_trim, records_from, source_of}
use Rattle.csv.specs.declared.reader.Reader.{Reader}
use Rattle.csv.specs.declared.reader.Trim.TheVariants as trim

pub record HasLeft {R : Type 0} (known : R → Option (List ℕ)) (reader : Reader R) (rows : List (List (List ℕ))) : Type 0 where
  pub no_trim : reader_trim reader ≡ trim.None
  pub ready : Ready reader
  pub flexible : is_flexible reader ≡ true
  pub config : reader_config reader ≡ default_config
  pub fuel : ℕ
  pub bytes : List ℕ
  pub source : source_of known reader ≡ Some bytes
  pub room : length bytes < fuel
  pub between : ends_at_end (reader_state reader) ≡ false
  pub rows_are : records_from default_config fuel (reader_state reader) bytes ≡ rows

-- a record was found, with these fields, and the others are left; or there was none
abbrev pub Takes : {R : Type 0} → (R → Option (List ℕ)) → Reader R → List (List (List ℕ)) → Bool → List (List ℕ)
    → Type 0
Takes known reader rows true fields = (rest : List (List (List ℕ))) × (rows ≡ fields ∷ rest) × HasLeft known reader rest
Takes known reader rows false fields = rows ≡ []
