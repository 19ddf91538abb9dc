use Rattle.std.proofs.Common.{arith}
use Rattle.std.proofs.lemmas.Grind.{common_steps}
use Rattle.lin_solve.proofs.kernel.next_row.Goals as goal

pub cleared_row-requires-clause-long : goal.cleared_row-requires-clause-long
cleared_row-requires-clause-long c = grind (arith, common_steps)

pub cleared_row-requires-clause-small : goal.cleared_row-requires-clause-small
cleared_row-requires-clause-small c = grind (arith, common_steps)

pub cleared_row-requires-clause-apart : goal.cleared_row-requires-clause-apart
cleared_row-requires-clause-apart c = grind (arith, common_steps)

pub returns-then-j-pivot : goal.returns-then-j-pivot
returns-then-j-pivot c = grind (arith, common_steps)
