use Rattle.std.proofs.Common.{sym}
use Rattle.award_file.proofs.StepOrder.{after-last}
use Rattle.award_file.proofs.read.price_steps.comes_next.Goals as goal

pub returns-in-Some : goal.returns-in-Some
returns-in-Some c = sym (after-last c.args.before.now c.in-Some.field-0.now c.args.excess (sym c.in-Some.ensures.value))
