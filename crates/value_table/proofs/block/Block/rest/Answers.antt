use Rattle.value_table.proofs.BlockLaws.{rest-block}
use Rattle.value_table.proofs.block.Block.rest.Goals as goal

pub invariant_of-result : goal.invariant_of-result
invariant_of-result c =
    let b = c.args.self.now in
    record { is = rest-block b.supply.now b.widths.now b.counts.now b.first c.requires b.is }
