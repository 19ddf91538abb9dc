-- A price of at most 40 lots.
use Rattle.std.proofs.Common.{arith}
use Rattle.relative_cap.proofs.AmountLaws.{price-most}
use Rattle.relative_cap.proofs.amounts.clock_amount.Goals as goal

pub returns-then-is_same-clause-most : goal.returns-then-is_same-clause-most
returns-then-is_same-clause-most c =
    omega (arith, c.cost.ensures, price-most c.prices.result.now c.package-held.result.now c.prices.ensures.most c.package-held.ensures.held.few)
