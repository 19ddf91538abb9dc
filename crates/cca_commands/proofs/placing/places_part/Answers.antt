use Rattle.std.proofs.Common.{◌∙◌}
use Rattle.std.proofs.lemmas.Result.{IfOk-weaker}
use Rattle.cca_commands.proofs.placing.places_part.Goals as goal

pub returns : goal.returns
returns c = IfOk-weaker c.from_text.result _ _ (λ t is. is ∙ c.in_ok-text.ensures) c.from_text.ensures
