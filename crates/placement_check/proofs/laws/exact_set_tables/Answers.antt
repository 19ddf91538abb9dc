use Rattle.placement_check.proofs.Exact.{plain-obeys, without-obeys, lowered-obeys}
use Rattle.placement_check.proofs.laws.exact_set_tables.Goals as goal

pub returns-clause-plain : goal.returns-clause-plain
returns-clause-plain c = λ slots table exact. plain-obeys slots table exact

pub returns-clause-without : goal.returns-clause-without
returns-clause-without c = λ slots j table exact. without-obeys slots j table exact

pub returns-clause-lowered : goal.returns-clause-lowered
returns-clause-lowered c = λ slots cert table pay_is pays exact. lowered-obeys slots cert table pay_is pays exact
