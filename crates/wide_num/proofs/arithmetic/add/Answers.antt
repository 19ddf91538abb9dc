use Rattle.std.proofs.Common.{rules}
use Rattle.wide_num.proofs.arithmetic.add.Goals as goal

pub overflow_add-a : goal.overflow_add-a
overflow_add-a c = search rules

pub returns : goal.returns
returns c = search rules
