use Rattle.print_grammar.proofs.FractionLaws.{one-text}
use Rattle.print_grammar.proofs.one_fraction.Goals as goal

pub returns : goal.returns
returns c = one-text
