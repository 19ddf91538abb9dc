use Rattle.std.proofs.Common.{arith}
use Rattle.std.proofs.lemmas.Grind.{common_steps}
use Rattle.outcome.proofs.lines.add_prices.Goals as goal

pub add_price-requires : goal.add_price-requires
add_price-requires c = grind (arith, common_steps)

pub loop-price-preserved : goal.loop-price-preserved
loop-price-preserved c = grind (arith, common_steps)

pub returns : goal.returns
returns c = grind (arith, common_steps)
