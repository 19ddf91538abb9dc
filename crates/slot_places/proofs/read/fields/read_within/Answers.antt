use Rattle.std.proofs.Common.{◌∙◌, ◌<◌, ◌^◌, sym, arith, rules}
use Rattle.wide_num.proofs.Decimal.{decimal_one}
use Rattle.slot_places.proofs.read.fields.read_within.Goals as goal

pub returns-in_default-clause-none : goal.returns-in_default-clause-none
returns-in_default-clause-none c = λ n least most is.
    let found = c.in-Some.ensures.found in
    let fits : c.args.most < 2 ^ 64 = search rules in
    let same = decimal_one n c.in-Some.n (omega (arith, most, fits)) (omega (arith, found.0, fits)) (sym is ∙ found.1) in
    omega (arith, same, least)
