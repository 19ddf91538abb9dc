-- By the cases of the empty package.
use Rattle.std.proofs.Common.{map, sym, ◌∙◌}
use Rattle.relative_cap.specs.OwnRounds.{bid_value}
use Rattle.relative_cap.proofs.LevelLaws.{high-empty, high-some}
use Rattle.relative_cap.proofs.levels.high_over.Goals as goal

pub returns-then-is_empty : goal.returns-then-is_empty
returns-then-is_empty c =
    high-empty c.args.history.now c.args.j (map bid_value c.args.list.now) c.args.r c.package-held.result.now c.requires.round.0 c.package-held.ensures.package
    (sym c.is_empty.ensures ∙ c.if-is_empty.true)

pub returns : goal.returns
returns c =
    high-some c.args.history.now c.args.j (map bid_value c.args.list.now) c.args.r c.args.clock c.amount_listed.result c.max.result c.package-held.result.now
    c.requires.round.0
    c.package-held.ensures.package (sym c.is_empty.ensures ∙ c.if-is_empty.false) c.requires.clock c.amount_listed.ensures.greatest
    c.amount_listed.ensures.most c.max.ensures
