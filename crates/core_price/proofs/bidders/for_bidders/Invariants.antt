-- The numbers of the bidders that were passed, and those of the winners that are left.
use Rattle.core_price.proofs.Spreading.{IsSpread}
use Rattle.core_price.proofs.bidders.for_bidders.Given as goal

abbrev pub invariant-loop-number : goal.invariant-loop-number
invariant-loop-number l = IsSpread l.numbers l.at l.list.items l.number-index l.winner
