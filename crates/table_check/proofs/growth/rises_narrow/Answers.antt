use Rattle.std.proofs.Common.{arith}
use Rattle.std.proofs.lemmas.Grind.{common_steps, elements}
use Rattle.table_check.proofs.growth.rises_narrow.Goals as goal

pub none_below-requires-clause-small : goal.none_below-requires-clause-small
none_below-requires-clause-small c = grind (arith, common_steps)

pub none_below-requires-clause-small_below : goal.none_below-requires-clause-small_below
none_below-requires-clause-small_below c = grind (arith, common_steps)

pub returns : goal.returns
returns c = grind (arith, elements)
