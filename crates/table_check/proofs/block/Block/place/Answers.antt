use Rattle.table_check.proofs.BlockLaws.{first-in}
use Rattle.table_check.proofs.block.Block.place.Goals as goal

pub returns-clause-inside : goal.returns-clause-inside
returns-clause-inside c = let block = c.args.self.now in first-in block.supply.now block.widths.now block.lots.now block.first block.is
