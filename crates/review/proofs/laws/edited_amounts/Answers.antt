use Rattle.review.proofs.AmountLaws.{amount-kept, amount-own, bidder-kept}
use Rattle.review.proofs.laws.edited_amounts.Goals as goal

pub returns-clause-own : goal.returns-clause-own
returns-clause-own c = amount-own

pub returns-clause-packages : goal.returns-clause-packages
returns-clause-packages c = amount-kept

pub returns-clause-bidders : goal.returns-clause-bidders
returns-clause-bidders c = bidder-kept
