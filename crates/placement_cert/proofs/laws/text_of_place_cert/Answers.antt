use Rattle.placement_cert.proofs.Sayings.{text_says}
use Rattle.placement_cert.proofs.laws.text_of_place_cert.Goals as goal

pub returns : goal.returns
returns c = λ bidders value small is. text_says bidders value small is
