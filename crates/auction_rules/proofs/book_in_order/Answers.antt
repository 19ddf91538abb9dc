-- The lemma on the order of the bids in a book.
use Rattle.auction_rules.proofs.BookLaws.{InOrder-bids_in_book}
use Rattle.auction_rules.proofs.book_in_order.Goals as goal

pub returns : goal.returns
returns c = InOrder-bids_in_book
