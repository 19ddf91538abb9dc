use Rattle.std.proofs.lemmas.Result.{IfOk-weaker}
use Rattle.print_grammar.specs.Prices.{IsPriceText}
use Rattle.outcome.proofs.Printable.{of-certificate, printable}
use Rattle.outcome.proofs.certified.outcome_text.Goals as goal

pub printed-requires : goal.printed-requires
printed-requires c = printable c.args.book.now c.requires.facts.0 c.args.facts.now c.requires.facts.1 c.kept.ensures

pub returns : goal.returns
returns c = λ cert are.
    IfOk-weaker c.printed.result _ _ (λ text all. of-certificate c.args.book.now cert c.args.facts.now are
    (λ z v p. IsPriceText c.args.book.now z v p text) all) c.printed.ensures
