-- The lemma on the bids of a book.
use Rattle.auction_rules.proofs.LawfulBids.{IsLawfulBid-bids_in_book}
use Rattle.auction_rules.proofs.lawful_bids.Goals as goal

pub returns : goal.returns
returns c = IsLawfulBid-bids_in_book
