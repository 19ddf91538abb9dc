use Rattle.std.proofs.Common.{◌∙◌, sym, arith}
use Rattle.lots.proofs.CountLaws.{within-fails, within-goes_on}
use Rattle.lots.proofs.counts.are_within.Goals as goal

pub returns-then-counts-i : goal.returns-then-counts-i
returns-then-counts-i c =
    sym (within-fails c.args.counts.now c.args.supply.now c.loop-i.i (omega arith) c.requires (omega arith)) ∙ c.loop-i.invariant

pub loop-i-preserved : goal.loop-i-preserved
loop-i-preserved c =
    sym (within-goes_on c.args.counts.now c.args.supply.now c.loop-i.i (omega arith) c.requires (omega arith)) ∙ c.loop-i.invariant
