-- The work that the last input of a command gives.
use Rattle.std.proofs.Common.{inl, inr, ℕ, ◌≤◌, Option, List, [], length, refl, sym, ap, subst, arith}
use Rattle.std.specs.Prelude.{Result, Ok, Err}
use Rattle.cca_base.specs.Files.{Agrees, Folder, GaveAll}
use Rattle.cca_cli.specs.Outcome.{Answer, FileAnswers, InputGives, Outcome, done, stopped, stopped_after, stops, value}
use Rattle.cca_cli.specs.Reading.{Halts, InputStops, OnlyLoads}
use Rattle.cca_cli.specs.declared.status.FileKind.{FileKind}
use Rattle.cca_cli.specs.declared.status.Status.{Status}
use Rattle.cca_commands.specs.Works.{GivesFrom, IsWork, StopsFrom, WorksFrom, bare, text_before}
use Rattle.cca_commands.specs.declared.work.Stop.{Stop}
use Rattle.cca_commands.specs.declared.work.Work.{Work}

module _ {V : Type 0} (kind : FileKind) (most : ℕ) (says : List ℕ → Answer V → Type 0) (follows : V → Outcome → Type 0) (name : List ℕ)
    (old new : Folder) (loads : OnlyLoads name old new) where
  -- what its bytes give
  abbrev Given : Option (List ℕ) → Outcome → Type 0
  Given content = InputGives kind most says content follows

  -- it stopped the run
  pub input-stops : (halts : List ℕ → Status → Type 0) → ((bytes : List ℕ) (s : Status) → halts bytes s → says bytes (stops s))
      → (s : Status) → InputStops kind most halts name old new s → WorksFrom kind name Given old new (Err (bare s))
  input-stops halts turn s stop = record { out = by stop; loads = loads }
    where
      given-by : (file : Option (List ℕ)) → Halts most halts file s → Given file (stopped s)
      given-by file h = subst (λ (content : Option (List ℕ)). Given content (stopped s)) (sym h.here)
          (stops s, record { text = λ short. turn h.bytes s (h.text short); long = λ more. ap stops (h.long more) }, refl)

      by : InputStops kind most halts name old new s → StopsFrom kind name Given old new (bare s)
      by (inl memory) = inl (ap bare memory)
      by (inr (inl (fault, rose, no_room))) = inr (inl (ap bare fault, rose, no_room))
      by (inr (inr (is_stop, told))) = inr (inr (is_stop, λ files agrees. given-by (files name) (told files agrees)))

  -- it has a value, and this is the work
  pub input-works : (v : V) (bytes : List ℕ) → length bytes ≤ most → says bytes (value v) → GaveAll name old new bytes
      → (result : Result Work Stop) → IsWork (follows v) [] result → WorksFrom kind name Given old new result
  input-works v bytes short said here result is = record { out = by result is; loads = loads }
    where
      answers : FileAnswers most says bytes (value v)
      answers = record { text = λ _. said; long = λ over. absurd (omega (arith, short, over)) }

      given : (o : Outcome) → follows v o → (files : List ℕ → Option (List ℕ)) → Agrees files old new → Given (files name) o
      given o gives files agrees = subst (λ (content : Option (List ℕ)). Given content o) (sym (here.held files agrees)) (value v, answers, gives)

      by : (result : Result Work Stop) → IsWork (follows v) [] result → GivesFrom kind name Given old new result
      by (Ok work) (gives, none) = (none, given (done work.printed work.appended.items) gives)
      by (Err stop) (inl memory) = inl memory
      by (Err stop) (inr (is_stop, gives)) = inr (inr (is_stop, given (stopped_after (text_before stop) stop.status) gives))
