-- The price of at most 40 lots is an amount.
use Rattle.std.proofs.Common.{map, arith}
use Rattle.clock_stage.specs.Kept.{categories_in}
use Rattle.relative_cap.specs.OwnRounds.{bid_value}
use Rattle.relative_cap.proofs.AmountLaws.{price-most}
use Rattle.bid_desk.proofs.BookLaws.{put-kept}
use Rattle.bid_desk.proofs.book.put_clock_bid.Goals as goal

pub returns-clause-kept : goal.returns-clause-kept
returns-clause-kept c =
    put-kept (categories_in c.args.history.now) c.package-held.result.now c.cost.result (map bid_value c.args.list.now.items)
    (map bid_value c.raise_to.new.list.items) c.package-held.ensures.held
    (omega (arith, c.cost.ensures, price-most c.prices.result.now c.package-held.result.now c.prices.ensures.most c.package-held.ensures.held.few))
    c.in_ok-raise_to.ensures c.requires.kept
