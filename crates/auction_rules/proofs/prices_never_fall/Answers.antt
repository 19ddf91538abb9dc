-- The lemma on the prices after one more round.
use Rattle.auction_rules.proofs.Sound.{prices_after-rises}
use Rattle.auction_rules.proofs.prices_never_fall.Goals as goal

pub returns : goal.returns
returns c = prices_after-rises
