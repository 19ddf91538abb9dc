-- The greatest of both.
use Rattle.std.proofs.Common.{map, sym, ◌∙◌}
use Rattle.relative_cap.specs.OwnRounds.{bid_value, rounds_of}
use Rattle.relative_cap.proofs.AmountLaws.{highest-is}
use Rattle.relative_cap.proofs.amounts.highest.Goals as goal

pub returns-clause-highest : goal.returns-clause-highest
returns-clause-highest c =
    highest-is (rounds_of c.args.j c.args.history.now) (map bid_value c.args.list.now) c.args.«package».now c.greatest_clock.result c.amount_listed.result
    c.max.result
    (sym c.is_empty.ensures ∙ c.if-is_empty.false) c.greatest_clock.ensures.greatest c.amount_listed.ensures.greatest c.max.ensures
