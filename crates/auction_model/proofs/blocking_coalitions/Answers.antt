use Rattle.auction_model.proofs.PriceLaws.{blocking-none, none-blocking}
use Rattle.auction_model.proofs.blocking_coalitions.Goals as goal

pub returns-clause-free : goal.returns-clause-free
returns-clause-free c = blocking-none

pub returns-clause-none : goal.returns-clause-none
returns-clause-none c = none-blocking
