use Rattle.value_table.proofs.RowSteps.{short-more}
use Rattle.value_table.proofs.rows.raise_by_fours.Goals as goal

pub loop-row-preserved : goal.loop-row-preserved
loop-row-preserved g c =
    short-more c.args.rows.now c.args.rows.now.inside c.args.below.now c.args.line.now c.loop-row.line c.raise_fours.new.line c.args.worth c.loop-row.row
    c.raise_fours.ensures.before c.raise_fours.ensures.raised c.raise_fours.ensures.behind c.loop-row.invariant
