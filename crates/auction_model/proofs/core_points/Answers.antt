use Rattle.auction_model.proofs.PriceLaws.{core-some}
use Rattle.auction_model.proofs.core_points.Goals as goal

pub returns : goal.returns
returns c = λ m z law. core-some m law z
