use Rattle.std.proofs.Common.{subst}
use Rattle.cert_check.specs.Partway.{IsJudged}
use Rattle.cert_check.proofs.PartwayLaws.{all-hold}
use Rattle.cert_check.proofs.failure.verdict_of.Goals as goal

pub returns-in-None : goal.returns-in-None
returns-in-None c = λ book w cert judged. all-hold book w cert (subst (IsJudged book w cert 10 0) c.in-None.is judged)

pub returns-in-Some : goal.returns-in-Some
returns-in-Some c = λ book w cert judged. subst (IsJudged book w cert 10 0) c.in-Some.is judged
