use Rattle.std.proofs.lemmas.Result.{IfOk-weaker}
use Rattle.cca_commands.proofs.placing.place_yes.Goals as goal

pub returns : goal.returns
returns c = IfOk-weaker c.after_yes.result _ _ (λ text whole. (c.in_ok-prices.prices, c.in_ok-prices.ensures, whole)) c.after_yes.ensures
