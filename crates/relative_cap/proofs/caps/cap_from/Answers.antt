-- Both sums are small, and the price of what was held is at most the highest amount.
use Rattle.std.proofs.Common.{◌≡◌, ◌≤◌, ◌^◌, ℕ, List, ap, ◌∙◌, arith, rules}
use Rattle.auction_model.specs.Package.{cost_of}
use Rattle.relative_cap.specs.OwnRounds.{own_in}
use Rattle.relative_cap.proofs.AmountLaws.{price-most}
use Rattle.relative_cap.proofs.caps.cap_from.Goals as goal

pub overflow_add-result : goal.overflow_add-result
overflow_add-result c =
    let price : c.cost.result ≤ 2 ^ 42 = omega (
      arith,
      c.cost.ensures,
      price-most c.prices-prices.result.now c.args.«package».now c.prices-prices.ensures.most
          c.requires.categories.few,
    ) in
    search rules

pub overflow_sub-result : goal.overflow_sub-result
overflow_sub-result c =
    let price : c.cost-2.result ≡ cost_of (own_in c.args.history.now c.args.j c.args.r).prices (own_in c.args.history.now c.args.j c.args.r).held
    = c.cost-2.ensures ∙ ap (λ (q : List ℕ). cost_of q c.package.result.now) c.prices-prices.ensures.prices
    ∙ ap (cost_of (own_in c.args.history.now c.args.j c.args.r).prices) c.package.ensures.package in
    omega (arith, price, c.requires.least)
