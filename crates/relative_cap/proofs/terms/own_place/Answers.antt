-- By the cases of the empty package.
use Rattle.std.proofs.Common.{sym, ◌∙◌}
use Rattle.relative_cap.proofs.FirstPlace.{own-empty, own-some}
use Rattle.relative_cap.proofs.terms.own_place.Goals as goal

pub returns-then-is_empty : goal.returns-then-is_empty
returns-then-is_empty c = own-empty c.args.history.now c.args.j c.rounds.result c.args.«package».now
    (sym c.is_empty.ensures ∙ c.if-is_empty.true) c.rounds.ensures.rounds

pub returns : goal.returns
returns c = own-some c.args.history.now c.args.j c.first_place.result c.args.«package».now (sym c.is_empty.ensures ∙ c.if-is_empty.false) c.first_place.ensures
