-- The lemmas on what a state says.
use Rattle.auction_rules.proofs.Telling.{prices-state_of, round-state_of, stage-state_of}
use Rattle.auction_rules.proofs.desk_tells.Goals as goal

pub returns-clause-stage : goal.returns-clause-stage
returns-clause-stage c = stage-state_of

pub returns-clause-round : goal.returns-clause-round
returns-clause-round c = round-state_of

pub returns-clause-prices : goal.returns-clause-prices
returns-clause-prices c = prices-state_of
