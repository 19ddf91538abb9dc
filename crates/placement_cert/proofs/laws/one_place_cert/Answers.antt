use Rattle.placement_cert.proofs.Sayings.{one_saying}
use Rattle.placement_cert.proofs.laws.one_place_cert.Goals as goal

pub returns : goal.returns
returns c = λ bidders bytes x y h g. one_saying bidders bytes x y h g
