-- From a command to what it prints and appends.
use Rattle.std.specs.Prelude.{Err, IsSome, List, None, Ok, Option, Result, [], length, map, reverse, unwrap_or, ℕ, ◌≡◌, ◌⊎◌}
use Rattle.std.specs.List.{AllByRecursion}
use Rattle.auction_model.specs.Book.{Book}
use Rattle.auction_rules.specs.Terms.{Terms}
use Rattle.auction_rules.specs.declared.Event.{Event}
use Rattle.log_replay.specs.ReplyLines.{end_of}
use Rattle.log_replay.specs.declared.results.ReplayStop.{ReplayStop}
use Rattle.cca_base.specs.Faults.{Rose}
use Rattle.cca_base.specs.Files.{Agrees, Folder, KeepsFiles}
use Rattle.core_price.specs.declared.priced.PriceStop.{PriceStop}
use Rattle.core_price.specs.declared.priced.PriceStop.TheVariants as price
use Rattle.limits.specs.declared.LimitKind.TheVariants.{Winners}
use Rattle.limits.specs.declared.TheConstants.{AWARD_BYTES, LOG_BYTES}
use Rattle.cca_cli.specs.Answers.{AwardAnswers, LogAnswers}
use Rattle.cca_cli.specs.Command.{CommandValue, inputs_of, output_as}
use Rattle.cca_cli.specs.Outcome.{Outcome, done, stopped, stopped_after, stops, value}
use Rattle.cca_cli.specs.Reading.{InputStops, IsRead, IsStop, OnlyLoads}
use Rattle.cca_cli.specs.declared.file_text.FileText.{FileText}
use Rattle.cca_cli.specs.declared.status.FileKind.{FileKind}
use Rattle.cca_cli.specs.declared.status.FileKind.TheVariants.{Award, Log, Cert}
use Rattle.cca_cli.specs.declared.status.Status.{Status}
use Rattle.cca_cli.specs.declared.status.Status.TheVariants.{ReadFault, Memory, Limit}
use Rattle.cca_commands.specs.Gives.{CertGives, FilesGive, VerdictGives, replay_status}
use Rattle.cca_commands.specs.ReadFaults.{CountsAmong, FailsToRead, Loaded}
use Rattle.cca_commands.specs.declared.work.Stop.{Stop}
use Rattle.cca_commands.specs.declared.work.Work.{Work}

abbrev pub price_status : PriceStop → Status
price_status (price.Winners count) = Limit Winners count
price_status price.Memory = Memory

-- a stop that prints only its line
abbrev pub bare : Status → Stop
bare status = record { before = None; status = status }

-- the text that is printed before the line of a stop
abbrev pub text_before : Stop → List ℕ
text_before stop = unwrap_or stop.before []

-- What is computed is what this gives, and its texts are of these kinds; a stop is out of memory, or what this gives.
abbrev pub IsWork : (Outcome → Type 0) → List FileKind → Result Work Stop → Type 0
IsWork gives kinds (Ok work) = gives (done work.printed work.appended.items)
    × (map (λ t. t.kind) work.appended.items ≡ kinds)
IsWork gives kinds (Err stop) = (stop ≡ bare Memory)
    ⊎ (IsStop stop.status × gives (stopped_after (text_before stop) stop.status))

-- the book that the events of a log lead to; a stop is out of memory, or why they lead to none
abbrev pub HasBook : Terms → List Event → Result Book Stop → Type 0
HasBook terms events (Ok book) = end_of terms (reverse events) ≡ Ok book
HasBook terms events (Err stop) =
    (stop ≡ bare Memory)
    ⊎ ((why : ReplayStop) × (end_of terms (reverse events) ≡ Err why)
    × (stop ≡ bare (replay_status (length events) why)))

-- how the way from the files to the work stops: when out of memory, by a fault of reading that was counted, or by what the files give
abbrev pub StopsBy : CommandValue → Folder → Folder → Stop → Type 0
StopsBy command old new stop =
    (stop ≡ bare Memory)
    ⊎ (((kind : FileKind) × (stop ≡ bare (ReadFault kind)) × FailsToRead command old new kind)
    ⊎ (IsStop stop.status
    × ((files : List ℕ → Option (List ℕ)) → Agrees files old new → FilesGive command files (stopped_after (text_before stop) stop.status))))

-- the command appends to files of these kinds
abbrev pub AreOutputs : CommandValue → List FileText → Type 0
AreOutputs command texts = AllByRecursion (λ t. IsSome (output_as command t.kind)) texts

abbrev pub WorksOut : CommandValue → Folder → Folder → Result Work Stop → Type 0
WorksOut command old new (Ok work) = AreOutputs command work.appended.items
    × ((files : List ℕ → Option (List ℕ)) → Agrees files old new → FilesGive command files (done work.printed work.appended.items))
WorksOut command old new (Err stop) = StopsBy command old new stop

-- No file changed, only counts of failed loads of the command's inputs may have risen, and only these were loaded, each once.
pub record OnlyReads (command : CommandValue) (old new : Folder) : Type 0 where
  pub loaded : Loaded (inputs_of command) old new
  pub kept : KeepsFiles old new
  pub loads : CountsAmong (inputs_of command) old.load_faults new.load_faults
  pub appends : new.append_faults ≡ old.append_faults

-- The work of a command was computed, or the way to it stopped.
pub record Works (command : CommandValue) (old new : Folder) (result : Result Work Stop) : Type 0 where
  pub out : WorksOut command old new result
  pub reads : OnlyReads command old new

-- How the way from one input of this kind and name to the work stops, if its bytes give this: when out of memory, by a fault of
-- reading that was counted, if no room is reported, or by what the bytes give.
abbrev pub StopsFrom : FileKind → List ℕ → (Option (List ℕ) → Outcome → Type 0) → Folder → Folder → Stop → Type 0
StopsFrom kind name gives old new stop =
    (stop ≡ bare Memory)
    ⊎ (((stop ≡ bare (ReadFault kind)) × Rose (old.load_faults name) (new.load_faults name) × (IsSome (old.room name) → ⊥))
    ⊎ (IsStop stop.status
    × ((files : List ℕ → Option (List ℕ)) → Agrees files old new
    → gives (files name) (stopped_after (text_before stop) stop.status))))

-- what is computed of one input is what its bytes give, and nothing is appended
abbrev pub GivesFrom : FileKind → List ℕ → (Option (List ℕ) → Outcome → Type 0) → Folder → Folder → Result Work Stop → Type 0
GivesFrom kind name gives old new (Ok work) = (map (λ t. t.kind) work.appended.items ≡ [])
    × ((files : List ℕ → Option (List ℕ)) → Agrees files old new → gives (files name) (done work.printed work.appended.items))
GivesFrom kind name gives old new (Err stop) = StopsFrom kind name gives old new stop

-- The work that one input of this kind and name gives was computed, or the way to it stopped, and only this input was loaded.
pub record WorksFrom (kind : FileKind) (name : List ℕ) (gives : Option (List ℕ) → Outcome → Type 0) (old new : Folder) (result : Result Work Stop) : Type 0 where
  pub out : GivesFrom kind name gives old new result
  pub loads : OnlyLoads name old new

-- how it ends for a certificate of this book, by these weights
abbrev pub CertWorks : Book → List ℕ → List ℕ → Folder → Folder → Result Work Stop → Type 0
CertWorks book weights name old new result =
    WorksFrom Cert name (λ content. CertGives book content (VerdictGives book weights)) old new result

-- an award was read, and only its file was loaded
pub record AwardIsRead (name : List ℕ) (old new : Folder) (terms : Terms) : Type 0 where
  pub value : IsRead AWARD_BYTES (λ bytes v. AwardAnswers bytes (value v)) name old new terms
  pub loads : OnlyLoads name old new

-- an award was read, and after it a log of it
pub record LogIsRead (award log : List ℕ) (old new : Folder) (terms : Terms) (events : List Event) : Type 0 where
  pub mid : Folder
  pub first : AwardIsRead award old mid terms
  pub value : IsRead LOG_BYTES (λ bytes v. LogAnswers terms bytes (value v)) log mid new events
  pub loads : OnlyLoads log mid new

-- the award stopped the run
pub record StopsAtAward (name : List ℕ) (old new : Folder) (stop : Stop) : Type 0 where
  pub status : Status
  pub is : stop ≡ bare status
  pub why : InputStops Award AWARD_BYTES (λ bytes s. AwardAnswers bytes (stops s)) name old new status
  pub loads : OnlyLoads name old new

-- an award was read, and the log after it stopped the run
pub record StopsAtLog (award log : List ℕ) (old new : Folder) (stop : Stop) : Type 0 where
  pub mid : Folder
  pub terms : Terms
  pub first : AwardIsRead award old mid terms
  pub status : Status
  pub is : stop ≡ bare status
  pub why : InputStops Log LOG_BYTES (λ bytes s. LogAnswers terms bytes (stops s)) log mid new status
  pub loads : OnlyLoads log mid new

-- An award and its log were read and led to a book, or stopped the run.
abbrev pub HasLogged : List ℕ → List ℕ → Folder → Folder → Result Book Stop → Type 0
HasLogged award log old new (Ok book) =
    (terms : Terms) × (events : List Event) × LogIsRead award log old new terms events × HasBook terms events (Ok book)
HasLogged award log old new (Err stop) =
    StopsAtAward award old new stop
    ⊎ (StopsAtLog award log old new stop
    ⊎ ((terms : Terms) × (events : List Event) × LogIsRead award log old new terms events × HasBook terms events (Err stop)))
