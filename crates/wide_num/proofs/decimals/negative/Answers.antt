use Rattle.std.proofs.Common.{◌∙◌, ap, arith}
use Rattle.std.specs.Fmt.{decimal}
use Rattle.wide_num.proofs.Signed.{behind_minus, not_zero}
use Rattle.wide_num.proofs.decimals.negative.Goals as goal

pub returns-in_default-clause-none : goal.returns-in_default-clause-none
returns-in_default-clause-none c = λ z small is. let spelled = c.in-Some.ensures.found.1 in not_zero c.args.size.now (behind_minus c.args.size.now z small is)
    (spelled ∙ ap decimal (omega arith))

pub returns-in_default-2-clause-none : goal.returns-in_default-2-clause-none
returns-in_default-2-clause-none c = λ z small is. let negated = behind_minus c.args.size.now z small is in
    c.in_default.ensures.none negated.size negated.small negated.spelled
