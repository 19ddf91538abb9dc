use Rattle.std.proofs.Common.{◌^◌, arith}
use Rattle.value_table.proofs.ShortLaws.{floor-none}
use Rattle.value_table.proofs.short_units.put_low.Goals as goal

pub returns-then-shift-ge-BITS-clause-floor : goal.returns-then-shift-ge-BITS-clause-floor
returns-then-shift-ge-BITS-clause-floor c =
    floor-none (2 ^ c.args.shift) c.args.line.now c.put_none.new.low (λ s h. c.put_none.ensures.none s (omega (arith, h, c.requires)))
