use Rattle.table_check.proofs.BlockLaws.{widths-in}
use Rattle.table_check.proofs.block.Block.width.Goals as goal

pub bounds-self-0 : goal.bounds-self-0
bounds-self-0 c = let block = c.args.self.now in widths-in block.supply.now block.widths.now block.lots.now block.first block.is
