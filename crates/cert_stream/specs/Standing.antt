-- The text that a reader stands for.
use Rattle.std.specs.Prelude.{◌≡◌, ℕ, ◌+◌, Option, Some, None, false, List, [], ◌∷◌, ◌++◌, length, take, drop, ℤ}
use Rattle.line_format.specs.LineText.{IsLine}
use Rattle.cert_grammar.specs.Plan.{Follows}
use Rattle.cert_grammar.specs.Lines.{Fits, IsCertText, Kind, Line, after, over}
use Rattle.cert_grammar.specs.Reading.{Reached}
use Rattle.cert_stream.specs.declared.due.NextLine.{NextLine}
use Rattle.cert_stream.specs.declared.due.NextLine.TheVariants.{Nothing}
use Rattle.cert_stream.specs.declared.line.LinePart.{LinePart}
use Rattle.cert_stream.specs.declared.stop.TextStop.{TextStop}
use Rattle.cert_stream.specs.declared.reader.Reader.{Reader}
use Rattle.cert_stream.specs.Dues.{word_of, plan_due, IsDue}
use Rattle.cert_stream.specs.LineParts.{IsPart, IsWholeLine}
use Rattle.cert_stream.specs.Rooms.{form_due, segment}
use Rattle.cert_stream.specs.Stops.{StopsFor}

-- no line has a number out of range
abbrev pub AllIn : List Line → Type 0
AllIn [] = Unit {0}
AllIn (l ∷ ls) = (over l ≡ false) × AllIn ls

-- lines that follow this plan go on from these to the end of a certificate's text
abbrev pub Lead : ℕ → ℕ → List Kind → List Line → Type 0
Lead b s plan items = (more : List Line) → Follows Fits after plan more → IsCertText b s (items ++ more)

-- The text's whole lines are the first lines of a certificate, and after them this line is due and has come that far. The room
-- begins with the head's choice, once that has come.
pub record IsReading (b s : ℕ) (due : NextLine) (part : LinePart) (place read : ℕ) (room : List ℤ) (text : List ℕ) (items : List Line) : Type 0 where
  pub reached : Reached b s text place (plan_due b s (take b room) due) items
  pub leads : Lead b s (plan_due b s (take b room) due) items
  pub inside : AllIn items
  pub named : IsDue b due
  pub line : IsLine (drop place text)
  pub front : IsPart (word_of due) (form_due b s due) part (segment b s due room) (drop place text)
  pub done : due ≡ Nothing → drop place text ≡ []
  pub long : length text ≡ read

-- The reader reads on after these lines; or it has stopped, and would at each text that begins so.
abbrev pub ReadsBehind : ℕ → ℕ → NextLine → LinePart → ℕ → ℕ → List ℤ → List ℕ → List Line → Option TextStop → Type 0
ReadsBehind b s due part place read room text items (Some stop) = StopsFor b s text stop
ReadsBehind b s due part place read room text items None = IsReading b s due part place read room text items

abbrev pub StandsBehind : Reader → List ℤ → List ℕ → List Line → Type 0
StandsBehind r room text items = ReadsBehind r.shape.bidders r.shape.states r.due r.part r.place r.read room text items r.stop

-- with its room the reader stands for this text
abbrev pub StandsFor : Reader → List ℤ → List ℕ → Type 0
StandsFor r room text = (items : List Line) × StandsBehind r room text items

-- a line feed has made the line whole that was due
pub record IsEnding (b s : ℕ) (due : NextLine) (part : LinePart) (place read : ℕ) (room : List ℤ) (text : List ℕ) (items : List Line) : Type 0 where
  pub reached : Reached b s text place (plan_due b s (take b room) due) items
  pub leads : Lead b s (plan_due b s (take b room) due) items
  pub inside : AllIn items
  pub named : IsDue b due
  pub line : IsLine (drop place text)
  pub whole : IsWholeLine (word_of due) (form_due b s due) part (segment b s due room) (drop place text)
  pub some : due ≡ Nothing → ⊥
  pub long : length text + 1 ≡ read

abbrev pub EndsBehind : Reader → List ℤ → List ℕ → List Line → Type 0
EndsBehind r room text items = IsEnding r.shape.bidders r.shape.states r.due r.part r.place r.read room text items
