-- The lemma on thresholds that rise.
use Rattle.auction_rules.proofs.Steps.{IsReachedShare-permille_at}
use Rattle.auction_rules.proofs.greatest_threshold.Goals as goal

pub returns : goal.returns
returns c = IsReachedShare-permille_at
