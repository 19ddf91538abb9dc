use Rattle.std.proofs.Common.{subst}
use Rattle.cert_check.specs.Partway.{IsLate}
use Rattle.cert_check.proofs.PartwayLaws.{late-kept}
use Rattle.cert_check.proofs.failure.merge_early.Goals as goal

pub returns-in-Some : goal.returns-in-Some
returns-in-Some c = λ book w cert test base late own. late-kept book w cert test base c.args.place c.in-Some.earlier
    (subst (IsLate book w cert test base c.args.place) c.in-Some.is late)

pub returns-in-None : goal.returns-in-None
returns-in-None c = λ book w cert test base late own. c.one_late.ensures book w cert test base
    (subst (IsLate book w cert test base c.args.place) c.in-None.is late) (own c.in-None.is)
