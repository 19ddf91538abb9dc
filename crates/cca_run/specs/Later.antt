-- The files later, when a certificate is tested.
use Rattle.std.specs.Prelude.{◌≡◌, ℕ, Option, List, [], ◌∷◌, drop, length, unwrap_or}
use Rattle.std.specs.List.{AllByRecursion}
use Rattle.cca_base.specs.Files.{Folder, added}
use Rattle.cca_cli.specs.Outcome.{Outcome}
use Rattle.cca_commands.specs.Gives.{cert_file}

-- the file is missing or empty
abbrev pub HoldsNothing : Option (List ℕ) → Type 0
HoldsNothing content = unwrap_or content [] ≡ []

-- The later content of files with this content before: what the appends in between took for a name is at its end.
abbrev pub after : (List ℕ → Option (List ℕ)) → Folder → Folder → List ℕ → Option (List ℕ)
after given old new name = added (given name) (drop (length (old.took name)) (new.took name))

-- The certificate's file was empty before and now contains what this outcome appends, and each of these inputs is unchanged.
pub record HoldsCert (inputs : List (List ℕ)) (cert : List ℕ) (file later : List ℕ → Option (List ℕ)) (outcome : Outcome) : Type 0 where
  pub text : List ℕ
  pub appended : outcome.appended ≡ cert_file text ∷ []
  pub held_nothing : HoldsNothing (file cert)
  pub cert_holds : later cert ≡ added (file cert) text
  pub inputs_hold : AllByRecursion (λ name. later name ≡ file name) inputs
