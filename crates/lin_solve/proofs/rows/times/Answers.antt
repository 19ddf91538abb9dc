use Rattle.std.proofs.Common.{rules}
use Rattle.lin_solve.proofs.rows.times.Goals as goal

pub overflow_mul-result : goal.overflow_mul-result
overflow_mul-result c = search rules

pub returns : goal.returns
returns c = search rules
