use Rattle.auction_model.proofs.PriceLaws.{outcome-one}
use Rattle.auction_model.proofs.WeightLaws.{outcome-weights}
use Rattle.auction_model.proofs.core_outcome.Goals as goal

pub returns-clause-one : goal.returns-clause-one
returns-clause-one c = λ m w z p q law. outcome-one m law w z p q

pub returns-clause-weights : goal.returns-clause-weights
returns-clause-weights c = outcome-weights
