use Rattle.std.proofs.Common.{arith, rules}
use Rattle.std.proofs.lemmas.Grind.{common_steps}
use Rattle.lin_solve.proofs.kernel.cleared.Goals as goal

pub next_row-requires-clause-ready : goal.next_row-requires-clause-ready
next_row-requires-clause-ready c = c.requires.ready

pub next_row-requires-clause-pivot : goal.next_row-requires-clause-pivot
next_row-requires-clause-pivot c = c.requires.pivot

pub next_row-requires-clause-within : goal.next_row-requires-clause-within
next_row-requires-clause-within c = omega arith

pub loop-j-preserved : goal.loop-j-preserved
loop-j-preserved c = grind (arith, common_steps)

pub returns-clause-long : goal.returns-clause-long
returns-clause-long c = search rules

pub returns-clause-rows : goal.returns-clause-rows
returns-clause-rows c = search rules
