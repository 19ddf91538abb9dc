-- What a run answers, prints and appends, and how that follows from one input after the other.
use Rattle.std.specs.Prelude.{◌≡◌, ◌≤◌, ◌<◌, ◌+◌, ℕ, Option, Some, None, List, [], ◌++◌, length}
use Rattle.limits.specs.declared.LimitKind.TheVariants.{Bytes}
use Rattle.cca_cli.specs.StatusLine.{status_line}
use Rattle.cca_cli.specs.declared.file_text.FileText.{FileText}
use Rattle.cca_cli.specs.declared.status.FileKind.{FileKind}
use Rattle.cca_cli.specs.declared.status.Status.{Status}
use Rattle.cca_cli.specs.declared.status.Status.TheVariants.{Done, ReadFault, Limit}

pub record Outcome : Type 0 where
  pub status : Status
  pub printed : List ℕ
  -- what is appended, in order
  pub appended : List FileText

-- a text is printed, these texts are appended, and all is done
abbrev pub done : List ℕ → List FileText → Outcome
done text appended = record { status = Done; printed = text; appended = appended }

-- a text is printed and then the line of the status, and nothing is appended
abbrev pub stopped_after : List ℕ → Status → Outcome
stopped_after text status = record { status = status; printed = text ++ status_line status; appended = [] }

-- only the line of the status is printed, and nothing is appended
abbrev pub stopped : Status → Outcome
stopped status = stopped_after [] status

-- the reading of an input's bytes: its value, or the status that stops the run
pub data Answer (V : Type 0) : Type 0 where
  value : V → Answer V
  stops : Status → Answer V

-- the bytes answer so: more than the limit stop the run, and else it is what the text says
pub record FileAnswers {V : Type 0} (most : ℕ) (says : List ℕ → Answer V → Type 0) (bytes : List ℕ) (answer : Answer V) : Type 0 where
  pub text : length bytes ≤ most → says bytes answer
  pub long : most < length bytes → answer ≡ stops (Limit Bytes (most + 1))

-- a stop is the outcome, and a value determines what follows
abbrev pub AnswerGives : {V : Type 0} → Answer V → (V → Outcome → Type 0) → Outcome → Type 0
AnswerGives (value v) follows outcome = follows v outcome
AnswerGives (stops status) follows outcome = outcome ≡ stopped status

-- The outcome of the input of a kind, with at most that many bytes: a missing one can't be read, more bytes than the limit and
-- bytes that state no value stop the run, and a value determines what follows.
abbrev pub InputGives : {V : Type 0} → FileKind → ℕ → (List ℕ → Answer V → Type 0) → Option (List ℕ)
    → (V → Outcome → Type 0) → Outcome → Type 0
InputGives kind most says None follows outcome = outcome ≡ stopped (ReadFault kind)
InputGives {V} kind most says (Some bytes) follows outcome = (answer : Answer V) × FileAnswers most says bytes answer
    × AnswerGives answer follows outcome
