-- The price of at most 40 lots is an amount.
use Rattle.std.proofs.Common.{List, ℕ, ap, ◌∙◌, arith}
use Rattle.auction_model.specs.Package.{cost_of}
use Rattle.relative_cap.specs.OwnRounds.{own_in, rounds_of}
use Rattle.relative_cap.specs.RoundsOfPackage.{first_place}
use Rattle.relative_cap.proofs.AmountLaws.{price-most}
use Rattle.relative_cap.proofs.terms.round_terms.Goals as goal

pub returns : goal.returns
returns c = record {
  place = c.first_place.ensures ∙ ap (first_place (rounds_of c.args.j c.args.history.now)) c.package-held.ensures.package;
  price = c.cost.ensures ∙ ap (λ (q : List ℕ). cost_of q c.args.«package».now) c.prices-prices.ensures.prices;
  most = omega (arith, c.cost.ensures, price-most c.prices-prices.result.now c.args.«package».now c.prices-prices.ensures.most c.requires.categories.few);
  held = c.cost-2.ensures ∙ ap (λ (q : List ℕ). cost_of q c.package-held.result.now) c.prices-prices.ensures.prices
      ∙ ap (cost_of (own_in c.args.history.now c.args.j c.args.r).prices) c.package-held.ensures.package;
}
