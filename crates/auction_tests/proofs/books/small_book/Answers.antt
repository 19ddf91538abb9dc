use Rattle.auction_tests.proofs.SmallBook.{small_lists}
use Rattle.auction_tests.proofs.books.small_book.Goals as goal

pub from_lists-requires : goal.from_lists-requires
from_lists-requires c =
    small_lists c.in_ok-supply.supply c.new-reserves.result c.push.new.self c.new-bidders.result c.push-2.new.self c.push-3.new.self c.in_ok-new.field-0
    c.in_ok-new-2.field-0 c.in_ok-bids_of_east.field-0 c.in_ok-bids_of_west.field-0
    c.in_ok-supply.ensures.made.0 c.new-reserves.ensures c.in_ok-push.ensures.pushed c.new-bidders.ensures c.in_ok-push-2.ensures.pushed
    c.in_ok-push-3.ensures.pushed c.in_ok-new.ensures c.in_ok-new-2.ensures c.in_ok-bids_of_east.ensures c.in_ok-bids_of_west.ensures
