-- What each desk keeps, and what a line makes of it.
use Rattle.std.specs.Prelude.{◌≡◌, ◌≢◌, ◌⊎◌, ◌∷◌, List}
use Rattle.std.specs.List.{AllByRecursion}
use Rattle.auction_rules.specs.declared.Event.{Event}
use Rattle.auction_rules.specs.declared.Event.TheVariants.{Close, Draft, Drop, Submit}
use Rattle.auction_rules.specs.declared.Event.TheVariants as event_kind
use Rattle.auction_rules.specs.declared.Reply.{Reply}
use Rattle.auction_rules.specs.declared.Reply.TheVariants as reply
use Rattle.auction_rules.specs.declared.Stage.{Stage}
use Rattle.auction_rules.specs.declared.Stage.TheVariants as stages
use Rattle.auction_rules.specs.Lawful.{HasCategories}
use Rattle.auction_rules.specs.Replies.{reply_to}
use Rattle.auction_rules.specs.State.{DeskState, reply_in, state_of, state_with}

-- the desk stands for a log whose packages have the award's number of categories
pub record IsReached (desk : DeskState) : Type 0 where
  pub log : List Event
  pub categories : AllByRecursion (HasCategories desk.terms) log
  pub stands : desk ≡ state_of desk.terms log

-- the line had the rules' reply and changed what it has to
pub record IsTaken (old : DeskState) (line : Event) (answer : Reply) (new : DeskState) : Type 0 where
  pub reply : answer ≡ reply_in old line
  pub state : new ≡ state_with old line

-- Out of memory may replace this reply of the rules at this stage: never for a clock bid or a drop, for a draft only if it is
-- admitted, for a submission only if the bidder's list is tested, and for a close only while the clock runs.
abbrev pub MayLack : Stage → Event → Reply → Type 0
MayLack stage (event_kind.Bid k lots) answer = ⊥
MayLack stage (Drop k lots) answer = ⊥
MayLack stage (Draft k lots amount) answer = answer ≡ reply.Ok
MayLack stage (Submit k) answer = (answer ≢ reply.Stage) × (answer ≢ reply.Unknown)
MayLack stage Close answer = stage ≡ stages.Clock

-- out of memory, in a case that allows it, and nothing changed
pub record IsRefusedMemory (old : DeskState) (line : Event) (answer : Reply) (new : DeskState) : Type 0 where
  pub reply : answer ≡ reply.Memory
  pub same : new ≡ old
  pub may : MayLack old.stage line (reply_in old line)

-- the line is a clock bid or a drop
abbrev pub IsBidOrDrop : Event → Type 0
IsBidOrDrop (event_kind.Bid k lots) = Unit {0}
IsBidOrDrop (Drop k lots) = Unit {0}
IsBidOrDrop (Draft k lots amount) = ⊥
IsBidOrDrop (Submit k) = ⊥
IsBidOrDrop Close = ⊥

-- the line was taken with its reply, or out of memory
abbrev pub IsTakenOrMemory : DeskState → Event → Reply → DeskState → Type 0
IsTakenOrMemory old line answer new = IsRefusedMemory old line answer new ⊎ IsTaken old line answer new

-- A desk that stood for this log replied to the line by the rules and stands for the log with the line. Or it is out of memory,
-- and still stands for the log.
pub record StandsWith (old : DeskState) (log : List Event) (line : Event) (answer : Reply) (new : DeskState) : Type 0 where
  pub reply : answer ≡ reply_to old.terms log line
  pub state : new ≡ state_of old.terms (line ∷ log)

abbrev pub StandsNext : DeskState → List Event → Event → Reply → DeskState → Type 0
StandsNext old log line answer new = IsRefusedMemory old line answer new ⊎ StandsWith old log line answer new

-- the line was taken with its reply, or out of memory, but never for a clock bid or a drop
pub record Takes (old : DeskState) (line : Event) (answer : Reply) (new : DeskState) : Type 0 where
  pub taken : IsTakenOrMemory old line answer new
  pub sure : IsBidOrDrop line → answer ≢ reply.Memory
  pub memory : answer ≡ reply.Memory → MayLack old.stage line (reply_in old line)
