use Rattle.std.proofs.Common.{arith}
use Rattle.std.proofs.lemmas.Grind.{common_steps}
use Rattle.award_file.proofs.read.bidders.take_bidder.Goals as goal

pub returns-in_default-clause-err : goal.returns-in_default-clause-err
returns-in_default-clause-err c = grind (arith, common_steps)

pub returns-then-contains-clause-err : goal.returns-then-contains-clause-err
returns-then-contains-clause-err c = grind (arith, common_steps)

pub returns-in_default-number_at-clause-err : goal.returns-in_default-number_at-clause-err
returns-in_default-number_at-clause-err c = grind (arith, common_steps)

pub returns-in_default-2-clause-err : goal.returns-in_default-2-clause-err
returns-in_default-2-clause-err c = grind (arith, common_steps)

pub returns-then-has_other-clause-err : goal.returns-then-has_other-clause-err
returns-then-has_other-clause-err c = grind (arith, common_steps)
