-- The lemma on the book that a desk makes.
use Rattle.auction_rules.proofs.BookLaws.{book_in-state_of}
use Rattle.auction_rules.proofs.desk_book.Goals as goal

pub returns : goal.returns
returns c = book_in-state_of
