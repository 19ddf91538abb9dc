use Rattle.big_auction.proofs.WholeLog.{log-answered, log-complete}
use Rattle.big_auction.proofs.laws.answered_log.Goals as goal

pub returns-clause-answered : goal.returns-clause-answered
returns-clause-answered c = log-answered

pub returns-clause-complete : goal.returns-clause-complete
returns-clause-complete c = log-complete
