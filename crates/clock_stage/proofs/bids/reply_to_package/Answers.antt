-- A package that may be bid has at most the lots of the supply.
use Rattle.std.proofs.Common.{sym, arith}
use Rattle.std.proofs.lemmas.Grind.{common_steps}
use Rattle.clock_stage.proofs.KeptLaws.{bid-lots}
use Rattle.clock_stage.proofs.bids.reply_to_package.Goals as goal

pub returns-clause-reply : goal.returns-clause-reply
returns-clause-reply c = grind (arith, common_steps)

pub returns-clause-few : goal.returns-clause-few
returns-clause-few c = λ ok.
    bid-lots c.args.award.now c.args.eligible c.args.bidder c.args.package.now c.supply.ensures.kept (sym (returns-clause-reply c))
