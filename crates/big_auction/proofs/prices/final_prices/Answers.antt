use Rattle.std.proofs.Common.{map, arith, ◌∙◌, ◌≤◌, ap}
use Rattle.award_file.specs.Award.{Steps}
use Rattle.auction_rules.specs.Rounds.{raised_prices}
use Rattle.big_auction.specs.MadeAward.{made_terms}
use Rattle.big_auction.specs.Parts.{counts_of, figures_of, held_from}
use Rattle.big_auction.proofs.Asking.{prices-low, prices-more}
use Rattle.big_auction.proofs.prices.final_prices.Goals as goal

pub raised-prices-requires : goal.raised-prices-requires
raised-prices-requires c =
    let few : c.loop-round._round ≤ 9 = omega arith in
    prices-low (held_from (map counts_of c.args.packages.now)) c.loop-round._round c.loop-round.prices few c.loop-round.invariant

pub loop-round-preserved : goal.loop-round-preserved
loop-round-preserved c =
    prices-more c.args.packages.now c.loop-round._round c.loop-round.prices c.raised-prices.result c.demand-asked.result c.requires c.demand-asked.ensures
    c.loop-round.invariant
    (c.raised-prices.ensures ∙ ap (λ (t : Steps). raised_prices t.tick t.thresholds (figures_of c.loop-round.prices)
    (figures_of c.demand-asked.result) made_terms.supply) c.in_ok-table.ensures)

pub returns-clause-low : goal.returns-clause-low
returns-clause-low c =
    let few : c.loop-round._round ≤ 9 = omega arith in
    prices-low (held_from (map counts_of c.args.packages.now)) c.loop-round._round c.loop-round.prices few c.loop-round.invariant
