use Rattle.std.proofs.Common.{subst}
use Rattle.cert_check.specs.Partway.{IsLate}
use Rattle.cert_check.proofs.PartwayLaws.{table-fails, table-holds}
use Rattle.cert_check.proofs.failure.of_table.Goals as goal

pub returns-in-Some : goal.returns-in-Some
returns-in-Some c = λ book w cert n before late rest. table-fails book w cert c.args.test c.args.base n c.in-Some.place before
    (subst (IsLate book w cert c.args.test c.args.base n) c.in-Some.is late)

pub returns-in-None : goal.returns-in-None
returns-in-None c = λ book w cert n before late rest. table-holds book w cert c.args.test c.args.base n before
    (subst (IsLate book w cert c.args.test c.args.base n) c.in-None.is late) rest
