use Rattle.std.proofs.Common.{rules}
use Rattle.cca_commands.proofs.price_text.facts_json.Goals as goal

pub returns-then-rounds : goal.returns-then-rounds
returns-then-rounds c = λ cert are. let printed = c.outcome_json.ensures cert are in search rules

pub returns-else-rounds : goal.returns-else-rounds
returns-else-rounds c = λ cert are. let printed = c.outcome_json-else-rounds.ensures cert are in search rules
