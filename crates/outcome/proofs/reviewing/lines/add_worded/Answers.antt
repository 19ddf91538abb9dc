use Rattle.std.proofs.Common.{arith}
use Rattle.std.proofs.lemmas.Grind.{common_steps}
use Rattle.outcome.proofs.reviewing.lines.add_worded.Goals as goal

pub returns : goal.returns
returns c = grind (arith, common_steps)
