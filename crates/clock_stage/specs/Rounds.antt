-- The rounds in the fields of a history and a clock.
use Rattle.std.specs.Prelude.{List, map}
use Rattle.auction_rules.specs.State.{Round}
use Rattle.clock_stage.specs.declared.rounds.ClockRound.{ClockRound}
use Rattle.clock_stage.specs.ClockState.{round_with}

abbrev pub round_value : ClockRound → Round
round_value r = round_with r.prices.items r.eligibility.items r.held.items

abbrev pub round_values : List ClockRound → List Round
round_values rounds = map round_value rounds
