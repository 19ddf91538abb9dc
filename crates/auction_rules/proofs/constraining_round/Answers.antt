-- The lemmas on the number of the constraining round.
use Rattle.auction_rules.proofs.Constraining.{IsLastEnough-constraining_number, round_at-constraining_number}
use Rattle.auction_rules.proofs.constraining_round.Goals as goal

pub returns-clause-last : goal.returns-clause-last
returns-clause-last c = IsLastEnough-constraining_number

pub returns-clause-number : goal.returns-clause-number
returns-clause-number c = round_at-constraining_number
