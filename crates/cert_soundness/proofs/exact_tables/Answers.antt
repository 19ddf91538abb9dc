use Rattle.cert_soundness.proofs.Exact.{plain-obeys, without-obeys, lowered-obeys}
use Rattle.cert_soundness.proofs.exact_tables.Goals as goal

pub returns-clause-plain : goal.returns-clause-plain
returns-clause-plain c = λ book table exact. plain-obeys book table exact

pub returns-clause-without : goal.returns-clause-without
returns-clause-without c = λ book j table exact. without-obeys book j table exact

pub returns-clause-lowered : goal.returns-clause-lowered
returns-clause-lowered c = λ book cert table pay_is h exact. lowered-obeys book cert pay_is h table exact
