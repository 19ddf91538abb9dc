use Rattle.std.proofs.Common.{rules}
use Rattle.wide_num.proofs.arithmetic.sub.Goals as goal

pub overflow_sub-a : goal.overflow_sub-a
overflow_sub-a c = search rules

pub returns : goal.returns
returns c = search rules
