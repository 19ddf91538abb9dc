use Rattle.table_check.proofs.BlockLaws.{last-block}
use Rattle.table_check.proofs.walk.one_fault.Goals as goal

pub returns : goal.returns
returns c =
    let block = c.args.block.now in
    last-block c.args.rule.now c.args.base block.supply.now block.widths.now block.lots.now block.first c.place.result c.size.result c.args.until
    c.run_fault.result block.is c.requires.one c.place.ensures.place c.size.ensures c.run_fault.ensures
