use Rattle.auction_model.proofs.PriceLaws.{vickrey-exist, vickrey-one}
use Rattle.auction_model.proofs.vickrey_prices.Goals as goal

pub returns-clause-exist : goal.returns-clause-exist
returns-clause-exist c = λ m z law. vickrey-exist m law z

pub returns-clause-one : goal.returns-clause-one
returns-clause-one c = λ m z v w these those j some inside. vickrey-one m z j (v j) (w j) (these j some inside) (those j some inside)
