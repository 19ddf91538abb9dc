use Rattle.outcome.proofs.PriceLists.{next-price, all-prices}
use Rattle.outcome.proofs.WinnerLaws.{is-winner}
use Rattle.outcome.proofs.prices.winner_prices.Goals as goal

pub winner_price-requires-clause-winner : goal.winner_price-requires-clause-winner
winner_price-requires-clause-winner c =
    is-winner c.args.book.now c.args.facts.now c.requires c.items-single-items.result.now c.items-single-items.ensures c.loop-single.single-index
    c.single-item.result c.loop-single-test.true c.single-item.is

pub loop-single-preserved : goal.loop-single-preserved
loop-single-preserved c =
    next-price c.args.book.now c.args.facts.now.choice _ c.args.facts.now.singles c.items-single-items.result.now c.items-single-items.ensures
    c.loop-single.single-index c.single-item.result c.loop-single-test.true c.single-item.is
    c.loop-single.prices.items c.push.new.self.items c.winner_price.result c.loop-single.invariant c.winner_price.ensures c.in_ok-push.ensures.items

pub returns : goal.returns
returns c =
    all-prices c.args.book.now c.args.facts.now.choice _ c.args.facts.now.singles c.items-single-items.result.now c.items-single-items.ensures
    c.loop-single.single-index c.loop-single-test.false c.loop-single.prices.items c.loop-single.invariant
