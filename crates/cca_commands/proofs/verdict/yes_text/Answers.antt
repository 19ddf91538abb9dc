use Rattle.std.proofs.lemmas.Result.{IfOk-weaker}
use Rattle.cca_commands.proofs.verdict.yes_text.Goals as goal

pub returns : goal.returns
returns c = λ cert are. IfOk-weaker c.after_yes.result _ _ (λ text whole. (c.in_ok-outcome.outcome, c.in_ok-outcome.ensures cert are, whole))
    c.after_yes.ensures
