use Rattle.std.proofs.Common.{◌≡◌, ◌∙◌, ap, sym, subst, List, ℕ, ◌++◌}
use Rattle.std.specs.Str.{IsAscii}
use Rattle.std.proofs.lemmas.Result.{IfOk-weaker}
use Rattle.serde_json.specs.Data.{string}
use Rattle.outcome.specs.Fractions.{fraction_text}
use Rattle.outcome.proofs.PlainTexts.{parts-plain, plain-ascii}
use Rattle.outcome.proofs.json_values.fraction_value.Goals as goal

pub text_value-requires : goal.text_value-requires
text_value-requires c =
    let f = c.args.fraction in
    let is : c.items.result.now ≡ fraction_text f = c.items.ensures ∙ c.in_ok-add_fraction.ensures ∙ ap
    (λ (l : List ℕ). l ++ fraction_text f) c.new-text.ensures in
    subst IsAscii (sym is) (plain-ascii (fraction_text f) (parts-plain f.whole f.rest f.parts))

pub returns : goal.returns
returns c =
    let f = c.args.fraction in
    let is : c.items.result.now ≡ fraction_text f = c.items.ensures ∙ c.in_ok-add_fraction.ensures ∙ ap
    (λ (l : List ℕ). l ++ fraction_text f) c.new-text.ensures in
    IfOk-weaker c.text_value.result _ _ (λ v h. h ∙ ap string is) c.text_value.ensures
