use Rattle.std.proofs.Common.{rules}
use Rattle.far_num.proofs.arithmetic.times.Goals as goal

pub returns-in_err-far : goal.returns-in_err-far
returns-in_err-far c = search rules

pub returns-in_err-near : goal.returns-in_err-near
returns-in_err-near c = search rules

pub returns : goal.returns
returns c = search rules
