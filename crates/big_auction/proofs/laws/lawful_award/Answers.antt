use Rattle.big_auction.proofs.AwardLaw.{IsAward-made_terms}
use Rattle.big_auction.proofs.laws.lawful_award.Goals as goal

pub returns : goal.returns
returns c = IsAward-made_terms
