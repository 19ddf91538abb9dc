use Rattle.std.proofs.Common.{sym, ◌∙◌, arith}
use Rattle.wide_num.proofs.Decimal.{decimal_one}
use Rattle.weights_file.proofs.line.read_weight.Goals as goal

pub returns-in_default-clause-none : goal.returns-in_default-clause-none
returns-in_default-clause-none c = λ w weight is.
    let found = c.in-Some.ensures.found in
    let same = decimal_one w c.in-Some.n (omega (arith, weight.1)) found.0 (sym is ∙ found.1) in
    omega (arith, same, weight.1)

pub returns-in_default-2-clause-none : goal.returns-in_default-2-clause-none
returns-in_default-2-clause-none c = λ w weight is.
    let found = c.in-Some.ensures.found in
    let same = decimal_one w c.in-Some.n (omega (arith, weight.1)) found.0 (sym is ∙ found.1) in
    omega (arith, same, weight.0)
