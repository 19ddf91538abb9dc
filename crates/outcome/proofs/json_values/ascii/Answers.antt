use Rattle.std.proofs.lemmas.Str.{IsUtf8-from_ascii}
use Rattle.outcome.proofs.PlainTexts.{ok-text}
use Rattle.outcome.proofs.json_values.ascii.Goals as goal

pub returns : goal.returns
returns c = (ok-text c.from_utf8.result c.unwrap_or.result _ _ _ c.unwrap_or.ensures c.from_utf8.ensures.cases
    (λ e not. not.0 (IsUtf8-from_ascii c.args.text.now c.requires))).0
