use Rattle.std.proofs.Common.{length, rules}
use Rattle.lin_solve.specs.Elimination.{IsKernelRow}
use Rattle.lin_solve.proofs.Limits.{small_combination}
use Rattle.lin_solve.proofs.solved.solve_within.Goals as goal

pub returns-in-Some-clause-small : goal.returns-in-Some-clause-small
returns-in-Some-clause-small c =
    let found : IsKernelRow (length c.args.lines.now) c.args.lines.now c.in-Some.combination = search rules in
    small_combination c.args.lines.now c.args.fars.now c.args.nears.now c.in-Some.combination found
