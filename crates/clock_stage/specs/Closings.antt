-- What a close answers.
use Rattle.std.specs.Prelude.{◌≡◌, IsTrue, IsFalse}
use Rattle.auction_rules.specs.declared.Reply.{Reply}
use Rattle.auction_rules.specs.declared.Reply.TheVariants as reply
use Rattle.clock_stage.specs.declared.closes.Closed.{Closed}
use Rattle.clock_stage.specs.declared.closes.Closed.TheVariants.{NextRound, StageEnds, Full, PriceTop, Memory}
use Rattle.clock_stage.specs.ClockState.{ClockState, round_number}

-- the answer says this reply of the rules and what is posted after it; out of memory says nothing
abbrev pub Tells : Closed → Reply → ClockState → Type 0
Tells (NextRound r) answer new = (answer ≡ reply.Ok) × IsTrue new.running × (r ≡ round_number new)
Tells StageEnds answer new = (answer ≡ reply.Ok) × IsFalse new.running
Tells (Full n) answer new = answer ≡ reply.Full n
Tells (PriceTop category price) answer new = answer ≡ reply.PriceTop category price
Tells Memory answer new = ⊥

-- the close was refused
abbrev pub IsRefusal : Closed → Type 0
IsRefusal (NextRound r) = ⊥
IsRefusal StageEnds = ⊥
IsRefusal (Full n) = Unit {0}
IsRefusal (PriceTop category price) = Unit {0}
IsRefusal Memory = Unit {0}
