use Rattle.std.proofs.lemmas.Result.{IfOk-weaker}
use Rattle.std.specs.Option.{option_map}
use Rattle.core_price.specs.Turns.{turns_of}
use Rattle.print_grammar.specs.Json.{IsOutcomeJson}
use Rattle.outcome.proofs.Printable.{of-certificate, printable}
use Rattle.outcome.proofs.json.outcome_json.Goals as goal

pub json_line-requires-clause-facts : goal.json_line-requires-clause-facts
json_line-requires-clause-facts c = printable c.args.book.now c.requires.facts.0 c.args.facts.now c.requires.facts.1 c.kept.ensures

pub returns : goal.returns
returns c = λ cert are.
    IfOk-weaker c.json_line.result _ _
    (λ text all. of-certificate c.args.book.now cert c.args.facts.now are (λ z v p. IsOutcomeJson c.args.book.now z v p
    (option_map (λ t. turns_of z t.now) c.args.turns) text) all) c.json_line.ensures
