use Rattle.std.proofs.Common.{◌^◌, arith}
use Rattle.value_table.proofs.ShortLaws.{ceiling-short}
use Rattle.value_table.proofs.short_units.put_high.Goals as goal

pub returns-clause-ceiling : goal.returns-clause-ceiling
returns-clause-ceiling c = λ _.
    ceiling-short (2 ^ c.args.shift) c.args.line.now c.loop-i.high (λ s h. c.loop-i.invariant.above s (omega (arith, h)))
    (λ s h. c.loop-i.invariant.short s (omega (arith, h)))
