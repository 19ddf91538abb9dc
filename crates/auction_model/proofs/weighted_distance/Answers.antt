use Rattle.auction_model.proofs.Shares.{share-whole}
use Rattle.auction_model.proofs.WeightLaws.{plain-distance}
use Rattle.auction_model.proofs.weighted_distance.Goals as goal

pub returns-clause-share : goal.returns-clause-share
returns-clause-share c = share-whole

pub returns-clause-plain : goal.returns-clause-plain
returns-clause-plain c = plain-distance
