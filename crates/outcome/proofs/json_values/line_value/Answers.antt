use Rattle.std.proofs.Common.{◌∙◌, sym, subst, ap}
use Rattle.std.specs.Str.{IsAscii}
use Rattle.std.proofs.lemmas.Result.{IfOk-weaker}
use Rattle.serde_json.specs.Data.{string}
use Rattle.outcome.proofs.PlainTexts.{front-of}
use Rattle.outcome.proofs.json_values.line_value.Goals as goal

pub text_value-requires : goal.text_value-requires
text_value-requires c = subst IsAscii (sym (front-of c.args.line.now c.requires)) c.requires.2

pub returns : goal.returns
returns c = IfOk-weaker c.text_value.result _ _ (λ v h. (c.requires.0, c.requires.1, h ∙ ap string (front-of c.args.line.now c.requires))) c.text_value.ensures
