-- There is one such round.
use Rattle.std.proofs.Common.{sym, subst}
use Rattle.auction_model.specs.Package.{cost_of}
use Rattle.relative_cap.specs.OwnRounds.{IsConstraining}
use Rattle.relative_cap.proofs.RoundLaws.{constraining_number-is}
use Rattle.relative_cap.proofs.rounds.constraining_round.Goals as goal

pub returns-clause-number : goal.returns-clause-number
returns-clause-number c =
    sym (constraining_number-is (cost_of c.args.points.now c.args.«package».now) c.args.history.now c.args.j c.last_enough.result
    (subst (λ n. IsConstraining n c.args.history.now c.args.j c.last_enough.result) c.points.ensures c.last_enough.ensures))
