-- The lemmas on the bidders of a book.
use Rattle.auction_rules.proofs.BookLaws.{bidders-book_of_log, bidder-book_of_log}
use Rattle.auction_rules.proofs.bidders_of_book.Goals as goal

pub returns-clause-count : goal.returns-clause-count
returns-clause-count c = bidders-book_of_log

pub returns-clause-each : goal.returns-clause-each
returns-clause-each c = bidder-book_of_log
