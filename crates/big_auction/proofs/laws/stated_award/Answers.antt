use Rattle.big_auction.proofs.AwardRead.{award-read}
use Rattle.big_auction.proofs.laws.stated_award.Goals as goal

pub returns : goal.returns
returns c = award-read
