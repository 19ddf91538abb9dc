use Rattle.big_auction.proofs.FewWinners.{few-win}
use Rattle.big_auction.proofs.laws.few_winners.Goals as goal

pub returns : goal.returns
returns c = few-win
