use Rattle.placement_check.proofs.OnePricing.{one-pricing}
use Rattle.placement_check.proofs.laws.one_pricing.Goals as goal

pub returns : goal.returns
returns c = λ slots p q few a b. one-pricing slots p q few a b
