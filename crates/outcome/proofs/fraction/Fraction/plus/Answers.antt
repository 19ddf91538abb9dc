use Rattle.outcome.proofs.Lowest.{greater}
use Rattle.outcome.proofs.fraction.Fraction.plus.Goals as goal

pub returns : goal.returns
returns c = λ n d is. greater n d c.args.self.whole c.args.self.rest c.args.self.parts c.args.more is
