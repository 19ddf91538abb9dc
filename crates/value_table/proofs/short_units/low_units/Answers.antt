use Rattle.std.proofs.Common.{◌≤◌, ◌*◌, ◌^◌, arith, bit_and}
use Rattle.std.proofs.lemmas.Nat.{and_le_l, mul-le}
use Rattle.value_table.proofs.short_units.low_units.Goals as goal

pub returns : goal.returns
returns c =
    let unit = 2 ^ c.args.shift in
    let part = c.units.result in
    let last = bit_and part 32767 in
    let product : last * unit ≤ part * unit = mul-le last unit part unit (and_le_l part 32767) (omega arith) in
    omega (arith, product, c.units.ensures.low)
