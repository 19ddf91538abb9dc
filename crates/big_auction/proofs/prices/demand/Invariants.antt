use Rattle.big_auction.proofs.Asking.{IsAskedBy}
use Rattle.big_auction.proofs.prices.demand.Given as goal

abbrev pub invariant-loop-lots : goal.invariant-loop-lots
invariant-loop-lots l = IsAskedBy l.packages l.lots-index l.all
