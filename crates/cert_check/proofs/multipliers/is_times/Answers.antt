use Rattle.cert_check.proofs.TimesLaws.{is-exact, not-exact}
use Rattle.cert_check.proofs.multipliers.is_times.Goals as goal

pub returns-then-number-divisor-ne0 : goal.returns-then-number-divisor-ne0
returns-then-number-divisor-ne0 c = not-exact c.args.number c.args.sum c.args.weight c.requires.0 c.requires.1 c.ranges.number c.ranges.sum
    c.if-number-divisor-ne0.true

pub returns : goal.returns
returns c = is-exact c.args.number c.args.sum c.args.weight c.requires.0 c.requires.1 c.ranges.number c.ranges.sum c.if-number-divisor-ne0.false
