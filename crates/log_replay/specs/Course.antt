-- How far a replay is.
use Rattle.std.specs.Prelude.{◌≡◌, ℕ, suc, List, ◌∷◌, length}
use Rattle.auction_rules.specs.Replies.{reply_to}
use Rattle.auction_rules.specs.State.{DeskState, round_in, state_of}
use Rattle.auction_rules.specs.Terms.{Terms}
use Rattle.auction_rules.specs.declared.Event.{Event}
use Rattle.auction_rules.specs.declared.Reply.{Reply}
use Rattle.log_file.specs.ReplyText.{reply_line}
use Rattle.log_replay.specs.ReplyLines.{done_by, first_refusal, reply_lines}
use Rattle.log_replay.specs.declared.lines.ReplayState.{ReplayState}

-- the line that is printed of a line that got this reply and led to this desk
abbrev pub line_at : ℕ → Event → Reply → DeskState → List ℕ
line_at number line answer desk = reply_line number answer (done_by line answer desk.stage (round_in desk)) desk.prices

-- these lines of a log were replayed
pub record IsCourse (terms : Terms) (log : List Event) (course : ReplayState) : Type 0 where
  pub desk : course.desk ≡ state_of terms log
  pub replies : course.replies ≡ reply_lines terms log
  pub stop : course.stop ≡ first_refusal terms log

-- what a desk answers to a line, and what it stands for then
pub record IsAnswered (terms : Terms) (log : List Event) (line : Event) (answer : Reply) (new : DeskState) : Type 0 where
  pub reply : answer ≡ reply_to terms log line
  pub state : new ≡ state_of terms (line ∷ log)

-- a desk that stood for a log replied to the line by the rules, and stands for the log with the line
abbrev pub Answers : DeskState → Event → Reply → DeskState → Type 0
Answers old line answer new = (terms : Terms) (log : List Event) → old ≡ state_of terms log
    → IsAnswered terms log line answer new

-- the line of this number was replayed after those before it
abbrev pub TakesLine : ReplayState → ℕ → Event → ReplayState → Type 0
TakesLine old number line new = (terms : Terms) (log : List Event) → IsCourse terms log old
    → number ≡ suc (length log) → IsCourse terms (line ∷ log) new
