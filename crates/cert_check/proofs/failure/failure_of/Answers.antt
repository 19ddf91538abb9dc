use Rattle.std.proofs.Common.{subst}
use Rattle.cert_check.specs.Places.{IsFirstFailing}
use Rattle.cert_soundness.specs.Tests.{Asks}
use Rattle.cert_check.proofs.PartwayLaws.{test-fails, test-holds}
use Rattle.cert_check.proofs.failure.failure_of.Goals as goal

pub returns-in-Some-clause-judged : goal.returns-in-Some-clause-judged
returns-in-Some-clause-judged c = λ book w cert before f. test-fails book w cert c.args.test c.in-Some.place before
    (subst (IsFirstFailing (Asks book w cert c.args.test)) c.in-Some.is f)

pub returns-in-None-clause-judged : goal.returns-in-None-clause-judged
returns-in-None-clause-judged c = λ book w cert before f. test-holds book w cert c.args.test before
    (subst (IsFirstFailing (Asks book w cert c.args.test)) c.in-None.is f)
