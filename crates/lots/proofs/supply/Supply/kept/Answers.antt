use Rattle.auction_model.proofs.PlaceLaws.{last-place}
use Rattle.lots.proofs.supply.Supply.kept.Goals as goal

pub returns-clause-last : goal.returns-clause-last
returns-clause-last c = last-place c.args.self.now
