use Rattle.print_grammar.proofs.RunTextLaws.{same-text, same-end_point}
use Rattle.print_grammar.proofs.one_run_text.Goals as goal

pub returns-clause-lines : goal.returns-clause-lines
returns-clause-lines c = λ m w z runs others t u law a b these those. let v = c.vickrey_prices.ensures.exist m z law in
    same-text m law w z v.0 v.1 runs others a b t u these those

pub returns-clause-last_points : goal.returns-clause-last_points
returns-clause-last_points c = λ m w z runs others p q law a b these those. let v = c.vickrey_prices.ensures.exist m z law in
    same-end_point m law w z v.0 v.1 runs others a b p q these those
