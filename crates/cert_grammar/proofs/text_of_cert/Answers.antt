use Rattle.cert_grammar.proofs.Laws.{text_says}
use Rattle.cert_grammar.proofs.text_of_cert.Goals as goal

pub returns : goal.returns
returns c = λ bidders states value small is. text_says bidders states value small is
