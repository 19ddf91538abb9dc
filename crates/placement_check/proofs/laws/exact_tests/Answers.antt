use Rattle.placement_check.proofs.ExactTests.{head-choice, head-table, part-passes, lowered-table}
use Rattle.placement_check.proofs.laws.exact_tests.Goals as goal

pub returns-clause-head : goal.returns-clause-head
returns-clause-head c = λ slots p greatest allowed value exact place. (head-choice slots p allowed value place, head-table slots p greatest value exact place)

pub returns-clause-part : goal.returns-clause-part
returns-clause-part c = λ slots j part order some best. part-passes slots j part order some best

pub returns-clause-lowered : goal.returns-clause-lowered
returns-clause-lowered c = λ slots p pay_is pays exact free place. lowered-table slots p pay_is pays exact free place
