-- The content of a list of bids, and the book of lists.
use Rattle.std.specs.Prelude.{ℕ, List}
use Rattle.auction_model.specs.Book.{Bidder, Book, BookBid}
use Rattle.lots.specs.declared.package.Bid.{Bid}

abbrev pub bid_of : Bid → BookBid
bid_of b = record { lots = b.package; amount = b.amount }

-- the book of this supply, these reserves and these bidders
abbrev pub book_of : List ℕ → List ℕ → List Bidder → Book
book_of supply reserves bidders = record { supply = supply; reserves = reserves; bidders = bidders }
