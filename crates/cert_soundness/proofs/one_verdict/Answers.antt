use Rattle.cert_soundness.proofs.Verdicts.{one_verdict, not_both}
use Rattle.cert_soundness.proofs.one_verdict.Goals as goal

pub returns-clause-one : goal.returns-clause-one
returns-clause-one c = λ book w cert t p u q f g. one_verdict book w cert t p u q f g

pub returns-clause-not_both : goal.returns-clause-not_both
returns-clause-not_both c = λ book w cert t p h f. not_both book w cert t p h f
