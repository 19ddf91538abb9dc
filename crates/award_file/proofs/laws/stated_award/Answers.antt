use Rattle.award_file.proofs.StatedAwards.{award-read}
use Rattle.award_file.proofs.laws.stated_award.Goals as goal

pub returns : goal.returns
returns c = award-read
