use Rattle.std.proofs.Common.{◌^◌, arith}
use Rattle.value_table.proofs.ShortLaws.{floor-short}
use Rattle.value_table.proofs.short_units.put_floor.Goals as goal

pub returns-clause-floor : goal.returns-clause-floor
returns-clause-floor c = floor-short (2 ^ c.args.shift) c.args.line.now c.loop-i.low (λ s h. c.loop-i.invariant.floor s (omega (arith, h)))
