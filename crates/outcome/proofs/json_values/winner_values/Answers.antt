use Rattle.std.proofs.Common.{arith}
use Rattle.std.proofs.lemmas.Grind.{common_steps}
use Rattle.outcome.proofs.json_values.winner_values.Goals as goal

pub winner_value-requires : goal.winner_value-requires
winner_value-requires c = grind (arith, common_steps)

pub prices-preserved : goal.prices-preserved
prices-preserved c = grind (arith, common_steps)

pub returns : goal.returns
returns c = grind (arith, common_steps)
