use Rattle.std.proofs.Common.{◌≡◌, ◌∙◌, ap, sym, subst, List, ℕ, ◌++◌}
use Rattle.std.proofs.lemmas.Result.{IfOk-weaker}
use Rattle.core_price.specs.Turns.{turn_of}
use Rattle.print_grammar.specs.Turns.{IsTurnLine}
use Rattle.outcome.specs.Json.{EndsLine}
use Rattle.outcome.proofs.PlainTexts.{turn-ends}
use Rattle.outcome.proofs.json_values.round_value.Goals as goal

pub line_value-requires : goal.line_value-requires
line_value-requires c =
    let grown = c.in_ok-add_turn.ensures in
    let is : c.items.result.now ≡ grown.0 = c.items.ensures ∙ grown.2 ∙ ap (λ (l : List ℕ). l ++ grown.0) c.new-text.ensures in
    subst EndsLine (sym is) (turn-ends c.args.winners.now c.args.number (turn_of c.args.winners.now c.args.turn.now) grown.0 grown.1)

pub returns : goal.returns
returns c =
    let grown = c.in_ok-add_turn.ensures in
    let t = turn_of c.args.winners.now c.args.turn.now in
    let is : c.items.result.now ≡ grown.0 = c.items.ensures ∙ grown.2 ∙ ap (λ (l : List ℕ). l ++ grown.0) c.new-text.ensures in
    let line : IsTurnLine c.args.winners.now c.args.number t c.items.result.now = subst (IsTurnLine c.args.winners.now c.args.number t) (sym is) grown.1 in
    IfOk-weaker c.line_value.result _ _ (λ v h. (h.0, subst (IsTurnLine c.args.winners.now c.args.number t) h.1 line, h.2)) c.line_value.ensures
