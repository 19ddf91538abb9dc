use Rattle.std.proofs.Common.{length}
use Rattle.table_check.proofs.CornerLaws.{corner-keeps}
use Rattle.table_check.proofs.blocks.is_reached.Goals as goal

pub returns : goal.returns
returns c = λ h.
    let rule = c.args.rule.now in
    let block = c.args.block.now in
    let lines = c.args.lines.now in
    let reached = c.corner_covers.ensures h in
    corner-keeps block.supply.now block.widths.now block.lots.now block.first c.place.result (length lines.line.now) rule.grow lines.line.now lines.below.now
    rule.worth block.is c.requires.grow reached.0 c.place.ensures.place c.requires.places reached.1
