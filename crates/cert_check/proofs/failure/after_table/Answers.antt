use Rattle.std.proofs.Common.{subst}
use Rattle.cert_check.specs.Partway.{IsJudged}
use Rattle.cert_check.proofs.failure.after_table.Goals as goal

pub returns-in-None : goal.returns-in-None
returns-in-None c = λ book w cert n judged late rest. c.of_table.ensures book w cert n
    (subst (IsJudged book w cert c.args.test c.args.base) c.in-None.is judged) late rest

pub returns-in-Some : goal.returns-in-Some
returns-in-Some c = λ book w cert n judged late rest. subst (IsJudged book w cert c.args.test c.args.base) c.in-Some.is judged
