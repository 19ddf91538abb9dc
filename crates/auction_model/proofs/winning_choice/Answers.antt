use Rattle.auction_model.proofs.PriceLaws.{winning-exists, winning-one}
use Rattle.auction_model.proofs.winning_choice.Goals as goal

pub returns-clause-exists : goal.returns-clause-exists
returns-clause-exists c = winning-exists

pub returns-clause-one : goal.returns-clause-one
returns-clause-one c = λ m d e law. winning-one m law d e
