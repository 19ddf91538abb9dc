use Rattle.std.proofs.lemmas.Result.{IfOk-weaker}
use Rattle.serde_json.specs.View.{view}
use Rattle.outcome.proofs.json.json_line.Goals as goal

pub returns : goal.returns
returns c = IfOk-weaker c.compact_line.result _ _ (λ text h v have. (view c.in_ok-value.value, c.in_ok-value.ensures.1 v have, h)) c.compact_line.ensures
