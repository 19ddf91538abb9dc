-- The state in the fields of a desk.
use Rattle.std.specs.Prelude.{Bool, List, map, if◌then◌else◌}
use Rattle.auction_rules.specs.declared.Stage.{Stage}
use Rattle.auction_rules.specs.declared.Stage.TheVariants.{Clock, Sealed}
use Rattle.auction_rules.specs.declared.Stage.TheVariants as stage
use Rattle.auction_rules.specs.Terms.{Terms}
use Rattle.auction_rules.specs.State.{DeskState}
use Rattle.clock_stage.specs.ClockState.{ClockState}
use Rattle.bid_desk.specs.Lists.{Lists}

-- rounds are posted while the clock runs, and then lists are drafted until the sealed round is closed
abbrev pub stage_value : Bool → Bool → Stage
stage_value running closed = if closed then stage.Closed else if running then Clock else Sealed

abbrev pub desk_value : Terms → ClockState → Bool → List Lists → DeskState
desk_value terms clock closed bidders = record {
  terms = terms;
  stage = stage_value clock.running closed;
  rounds = clock.rounds;
  prices = clock.posted.prices;
  eligibility = clock.posted.eligibility;
  held = clock.posted.held;
  drafts = map (λ l. l.drafts) bidders;
  submitted = map (λ l. l.submitted) bidders;
}
