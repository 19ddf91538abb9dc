use Rattle.cert_grammar.proofs.Laws.{one_saying}
use Rattle.cert_grammar.proofs.one_cert.Goals as goal

pub returns : goal.returns
returns c = λ bidders states bytes x y h g. one_saying bidders states bytes x y h g
