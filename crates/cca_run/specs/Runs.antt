-- What a run keeps: the clauses of the top call, each by its name. What they say is there.
use Rattle.std.specs.Prelude.{◌++◌, codes, take, ◌≡◌, ◌⊎◌, ◌≤◌, ◌<◌, ◌∷◌, ℕ, Bool, IsTrue, List, [], length, Option, Some, None}
use Rattle.auction_rules.specs.Terms.{Terms}
use Rattle.auction_rules.specs.declared.Event.{Event}
use Rattle.cca_base.specs.Files.{Agrees, Folder, KeepsFiles}
use Rattle.cca_base.specs.Sink.{Output, Puts}
use Rattle.cca_cli.specs.Command as command
use Rattle.cca_cli.specs.Command.{command_of}
use Rattle.cca_cli.specs.Outcome.{Outcome}
use Rattle.cca_cli.specs.StatusLine.{status_line}
use Rattle.cca_cli.specs.Statuses.{IsDecided, IsHindered, KeepsAll}
use Rattle.cca_cli.specs.declared.price_form.PriceForm.{PriceForm}
use Rattle.cca_cli.specs.declared.status.FileKind.{FileKind}
use Rattle.cca_cli.specs.declared.status.FileKind.TheVariants.{Out}
use Rattle.cca_cli.specs.declared.status.Status.{Status}
use Rattle.cca_cli.specs.declared.status.Status.TheVariants.{Done, Memory, ReadFault, Words, WriteFault}
use Rattle.cca_commands.specs.Gives.{FilesGive, Gives, cert_file}
use Rattle.cca_commands.specs.ReadFaults.{CountsAmong, Loaded}
use Rattle.cca_run.specs.Headline.{CanBeAwarded, IsAuction, IsAudited, IsAwarded, IsDoneOrLimited}
use Rattle.cca_run.specs.Later.{HoldsCert, HoldsNothing, after}
use Rattle.cca_run.specs.Rooms.{HasRooms}
use Rattle.cca_run.specs.Verdicts.{IsChecked, IsPlaceChecked, IsPlaced, IsPriced, IsReviewed, IsWeighChecked, IsWeighed}
use Rattle.cca_run.specs.Run.{Appended, AppendsAll, Changes, HasNoFault, IsDue, IsReadFault, IsWriteFault, inputs, outputs}

-- A run with these arguments went from these files and this output to those, and ended with this
-- status.
pub record Runs (said : List (List ℕ)) (old new : Folder) (before now : Output) (result : Status) : Type 0 where
  pub words : result ≡ Words → command_of said ≡ None
  pub not_plain : command_of said ≡ None → (result ≡ Words) ⊎ (result ≡ WriteFault Out)
  pub audit : (terms log cert : List ℕ) → command_of said ≡ Some (command.audit terms log cert) → (given : List ℕ → Option (List ℕ))
      → Agrees given old new → result ≡ Done → (text : List ℕ) × IsAudited given terms log cert text × Puts before now text (length text)
  pub seen : (terms log cert : List ℕ) → command_of said ≡ Some (command.audit terms log cert) → (given : List ℕ → Option (List ℕ))
      → Agrees given old new → (more : List ℕ) → now.bytes ≡ before.bytes ++ (codes "yes" ++ more)
      → (text : List ℕ) × IsAudited given terms log cert text × ((n : ℕ) × (codes "yes" ++ more ≡ take n text))
  pub award : (terms log cert : List ℕ) (form : PriceForm) → command_of said ≡ Some (command.award terms log cert form)
      → (given : List ℕ → Option (List ℕ)) → Agrees given old new → result ≡ Done → (text : List ℕ) × IsAwarded given terms log text
      × AppendsAll (command.award terms log cert form) (cert_file text ∷ []) old new
  pub checked : (book cert : List ℕ) → command_of said ≡ Some (command.check book cert) → (given : List ℕ → Option (List ℕ))
      → Agrees given old new → result ≡ Done → (text : List ℕ) × IsChecked given book cert text × Puts before now text (length text)
  pub check_seen : (book cert : List ℕ) → command_of said ≡ Some (command.check book cert) → (given : List ℕ → Option (List ℕ))
      → Agrees given old new → (more : List ℕ) → now.bytes ≡ before.bytes ++ (codes "yes" ++ more)
      → (text : List ℕ) × IsChecked given book cert text × ((n : ℕ) × (codes "yes" ++ more ≡ take n text))
  pub weigh_checked : (book weights cert : List ℕ) → command_of said ≡ Some (command.weigh_check book weights cert)
      → (given : List ℕ → Option (List ℕ)) → Agrees given old new → result ≡ Done
      → (text : List ℕ) × IsWeighChecked given book weights cert text × Puts before now text (length text)
  pub weigh_check_seen : (book weights cert : List ℕ) → command_of said ≡ Some (command.weigh_check book weights cert)
      → (given : List ℕ → Option (List ℕ)) → Agrees given old new → (more : List ℕ)
      → now.bytes ≡ before.bytes ++ (codes "yes" ++ more)
      → (text : List ℕ) × IsWeighChecked given book weights cert text × ((n : ℕ) × (codes "yes" ++ more ≡ take n text))
  pub place_checked : (slots cert : List ℕ) → command_of said ≡ Some (command.place_check slots cert) → (given : List ℕ → Option (List ℕ))
      → Agrees given old new → result ≡ Done → (text : List ℕ) × IsPlaceChecked given slots cert text × Puts before now text (length text)
  pub place_check_seen : (slots cert : List ℕ) → command_of said ≡ Some (command.place_check slots cert)
      → (given : List ℕ → Option (List ℕ)) → Agrees given old new → (more : List ℕ)
      → now.bytes ≡ before.bytes ++ (codes "yes" ++ more)
      → (text : List ℕ) × IsPlaceChecked given slots cert text × ((n : ℕ) × (codes "yes" ++ more ≡ take n text))
  pub priced : (book cert : List ℕ) (form : PriceForm) → command_of said ≡ Some (command.price book cert form)
      → (given : List ℕ → Option (List ℕ)) → Agrees given old new → result ≡ Done → (text : List ℕ) × IsPriced given book text
      × AppendsAll (command.price book cert form) (cert_file text ∷ []) old new
  pub weighed : (book weights cert : List ℕ) (form : PriceForm) → command_of said ≡ Some (command.weigh book weights cert form)
      → (given : List ℕ → Option (List ℕ)) → Agrees given old new → result ≡ Done → (text : List ℕ) × IsWeighed given book weights text
      × AppendsAll (command.weigh book weights cert form) (cert_file text ∷ []) old new
  pub placed : (slots cert : List ℕ) (rounds : Bool) → command_of said ≡ Some (command.place slots cert rounds)
      → (given : List ℕ → Option (List ℕ)) → Agrees given old new → result ≡ Done → (text : List ℕ) × IsPlaced given slots text
      × AppendsAll (command.place slots cert rounds) (cert_file text ∷ []) old new
  pub reviewed : (book edits : List ℕ) → command_of said ≡ Some (command.review book edits) → (given : List ℕ → Option (List ℕ))
      → Agrees given old new → result ≡ Done → (text : List ℕ) × IsReviewed given book edits text × Puts before now text (length text)
  pub every_log : (terms log cert : List ℕ) (form : PriceForm) → command_of said ≡ Some (command.award terms log cert form)
      → (given : List ℕ → Option (List ℕ)) → Agrees given old new → (t : Terms) (lines : List Event) → IsAuction given terms log t lines
      → HasNoFault (command_of said) old new before now → IsDoneOrLimited result ⊎ (result ≡ Memory)
  pub awarded : (terms log cert : List ℕ) (form : PriceForm) → command_of said ≡ Some (command.award terms log cert form)
      → (given : List ℕ → Option (List ℕ)) → Agrees given old new → CanBeAwarded given terms log
      → HasNoFault (command_of said) old new before now → (result ≡ Done) ⊎ (result ≡ Memory)
  pub accepted : (terms log cert : List ℕ) (form : PriceForm) (earlier : List ℕ → Option (List ℕ)) (o : Outcome)
      → command_of said ≡ Some (command.audit terms log cert) → (given : List ℕ → Option (List ℕ)) → Agrees given old new
      → FilesGive (command.award terms log cert form) earlier o → HoldsCert (terms ∷ log ∷ []) cert earlier given o
      → HasNoFault (command_of said) old new before now → (result ≡ Done) ⊎ (result ≡ Memory)
  pub hands_on : (terms log cert : List ℕ) (form : PriceForm) → command_of said ≡ Some (command.award terms log cert form)
      → (given : List ℕ → Option (List ℕ)) → Agrees given old new → result ≡ Done → HoldsNothing (given cert) → (o : Outcome)
      × FilesGive (command.award terms log cert form) given o × HoldsCert (terms ∷ log ∷ []) cert given (after given old new) o
  pub handed_on : (terms log cert : List ℕ) (form : PriceForm) → command_of said ≡ Some (command.award terms log cert form)
      → IsTrue old.told → result ≡ Done → HoldsNothing (old.file cert) → (o : Outcome)
      × FilesGive (command.award terms log cert form) old.file o × HoldsCert (terms ∷ log ∷ []) cert old.file new.file o
  pub complete : HasNoFault (command_of said) old new before now → (result ≡ Memory) ⊎ IsDecided result
  pub roomy : IsTrue old.told → HasRooms said old before → (result ≡ Memory) ⊎ IsDecided result
  pub read_fault : (kind : FileKind) → result ≡ ReadFault kind → IsReadFault (command_of said) old new kind
  pub write_fault : (kind : FileKind) → result ≡ WriteFault kind → IsWriteFault (command_of said) old new before now kind
  pub given : (given : List ℕ → Option (List ℕ)) × Agrees given old new
  pub told : IsTrue old.told → Agrees old.file old new
  pub loaded : Loaded (inputs (command_of said)) old new
  pub answer : (given : List ℕ → Option (List ℕ)) → Agrees given old new → IsDecided result → (o : Outcome) × Gives said given o
      × (o.status ≡ result) × Puts before now o.printed (length o.printed) × Appended (command_of said) o.appended old new
  pub line : (result ≡ Words) ⊎ IsHindered result → Puts before now (status_line result) (length (status_line result))
  pub front : result ≡ WriteFault Out → (text : List ℕ) × (n : ℕ) × (n < length text) × Puts before now text n
      × ((given : List ℕ → Option (List ℕ)) → Agrees given old new → IsDue said given old new text)
  pub kept : KeepsAll result → KeepsFiles old new
  pub files : Changes (command_of said) old new
  pub knows : new.knows ≡ old.knows
  pub loads : CountsAmong (inputs (command_of said)) old.load_faults new.load_faults
  pub appends : CountsAmong (outputs (command_of said)) old.append_faults new.append_faults
  pub faults : before.faults ≤ now.faults
