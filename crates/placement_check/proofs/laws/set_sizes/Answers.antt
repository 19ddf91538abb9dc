use Rattle.placement_check.proofs.SetSizes.{entry-least, entry-most, worth-most}
use Rattle.placement_check.proofs.laws.set_sizes.Goals as goal

pub returns-clause-entries : goal.returns-clause-entries
returns-clause-entries c = λ b worth table rules bits below. (entry-least b worth table rules bits below, entry-most b worth table rules bits below)

pub returns-clause-bids : goal.returns-clause-bids
returns-clause-bids c = λ b worth table rules bits j i below some low new positive known may. worth-most b worth table rules bits j i below some low new
    positive known may
