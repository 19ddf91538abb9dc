-- Each clause is a lemma on the pairs of a bidder.
use Rattle.auction_rules.proofs.BookPairs.{has_entry-bids_in_book, bids_in_book-greatest, bids_in_book-some}
use Rattle.auction_rules.proofs.KeptStandings.{bids_in_book-few}
use Rattle.auction_rules.proofs.bids_of_book.Goals as goal

pub returns-clause-packages : goal.returns-clause-packages
returns-clause-packages c = has_entry-bids_in_book

pub returns-clause-amounts : goal.returns-clause-amounts
returns-clause-amounts c = bids_in_book-greatest

pub returns-clause-some : goal.returns-clause-some
returns-clause-some c = bids_in_book-some

pub returns-clause-few : goal.returns-clause-few
returns-clause-few c = bids_in_book-few
