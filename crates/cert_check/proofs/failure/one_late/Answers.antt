use Rattle.std.proofs.Common.{arith}
use Rattle.std.proofs.lemmas.Bool.{iff_false}
use Rattle.cert_check.proofs.PartwayLaws.{late-more}
use Rattle.cert_check.proofs.failure.one_late.Goals as goal

pub returns-then-holds : goal.returns-then-holds
returns-then-holds c = λ book w cert test base late own. late-more book w cert test base c.args.place late (own.0 c.if-holds.true)

pub returns-else-holds : goal.returns-else-holds
returns-else-holds c = λ book w cert test base late own. (omega arith, iff_false own c.if-holds.false, late)
