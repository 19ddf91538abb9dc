use Rattle.std.proofs.Common.{rules, pos, ◌+ℤ◌, ◌*ℤ◌, ◌≤ℤ◌, ◌<ℤ◌, ◌≡◌, ◌<◌, ◌^◌, subst, sym, List, ℕ, ℤ, length, FitsSigned, to_z, of_z, arith}
use Rattle.std.specs.Int.{w128}
use Rattle.std.proofs.lemmas.Int.{to_z-of_z}
use Rattle.wide_num.specs.Range.{InRange}
use Rattle.wide_num.specs.Sums.{nth, total}
use Rattle.outcome.specs.Fractions.{IsFractionOf}
use Rattle.outcome.specs.Prices.{reserves_of}
use Rattle.outcome.specs.Printable.{point_of}
use Rattle.outcome.proofs.Revenue.{few, revenue-is}
use Rattle.outcome.proofs.certified.paid_in_all.Goals as goal

pub revenue-requires-clause-den : goal.revenue-requires-clause-den
revenue-requires-clause-den c =
    let den = c.args.facts.now.den in
    let fits : FitsSigned w128 c.args.facts.now.den = search rules in
    subst (λ (d : ℤ). (pos 1 ≤ℤ d) × InRange d) (sym (to_z-of_z w128 den fits)) c.requires.facts.den

pub revenue-requires-clause-few : goal.revenue-requires-clause-few
revenue-requires-clause-few c =
    let facts = c.requires.facts in
    let most = few c.args.book.now c.args.facts.now.choice (point_of c.args.facts.now) c.args.facts.now.singles c.args.prices.now facts.known facts.payments
    facts.winners c.requires.prices in
    omega (arith, most, c.kept.ensures.bidders)

pub revenue-requires-clause-not_negative : goal.revenue-requires-clause-not_negative
revenue-requires-clause-not_negative c =
    subst (λ (l : List ℤ). (i : ℕ) → i < length l → pos 0 ≤ℤ nth l i) (sym c.items.ensures) c.requires.facts.not_negative

pub revenue-requires-clause-range : goal.revenue-requires-clause-range
revenue-requires-clause-range c =
    subst (λ (l : List ℤ). total (length l) (nth l) <ℤ pos (2 ^ 120)) (sym c.items.ensures) c.requires.facts.small

pub returns : goal.returns
returns c =
    let facts = c.args.facts.now in
    let prices = c.args.prices.now in
    let is = c.requires.facts in
    let den-fits : FitsSigned w128 c.args.facts.now.den = search rules in
    let den : to_z w128 (of_z w128 facts.den) ≡ facts.den = to_z-of_z w128 facts.den den-fits in
    let revenue : IsFractionOf (total (length facts.pay) (nth facts.pay) +ℤ (facts.den *ℤ pos (reserves_of prices))) facts.den c.revenue.result =
    subst (λ (at : List ℤ). IsFractionOf (total (length at) (nth at) +ℤ (facts.den *ℤ pos (reserves_of prices))) facts.den c.revenue.result) c.items.ensures
    (subst (λ (d : ℤ). IsFractionOf (total (length c.items.result.now) (nth c.items.result.now) +ℤ (d *ℤ pos (reserves_of prices))) d c.revenue.result) den
    c.revenue.ensures) in
    subst (λ (x : ℤ). IsFractionOf x facts.den c.revenue.result) (revenue-is c.args.book.now facts.choice
    (point_of facts) facts.singles prices is.known is.payments is.winners c.requires.prices) revenue
