use Rattle.print_grammar.proofs.PriceTextLaws.{same-text}
use Rattle.print_grammar.proofs.one_price_text.Goals as goal

pub returns : goal.returns
returns c = λ book z v w p q t u long dp dq same agree. same-text book z v w p q dp dq same agree t u long
