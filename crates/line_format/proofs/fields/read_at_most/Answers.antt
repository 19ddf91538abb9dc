use Rattle.std.proofs.Common.{sym, ◌∙◌, arith}
use Rattle.wide_num.proofs.Decimal.{decimal_one}
use Rattle.line_format.proofs.fields.read_at_most.Goals as goal

pub returns-in_default-clause-none : goal.returns-in_default-clause-none
returns-in_default-clause-none c = λ n small is.
    let found = c.in-Some.ensures.found in
    let same = decimal_one n c.in-Some.n (omega arith) found.0 (sym is ∙ found.1) in
    omega (arith, same)
