-- The book in the fields.
use Rattle.std.specs.Prelude.{◌≡◌, ℕ, List, map, pos, ◌-ℤ◌}
use Rattle.std.specs.List.{All}
use Rattle.auction_model.specs.Package.{cost_of}
use Rattle.auction_model.specs.Book.{Bidder, Book, BookBid}
use Rattle.bid_book.specs.declared.book.Entry.{Entry}
use Rattle.bid_book.specs.declared.book.BookBidder.{BookBidder}
use Rattle.bid_book.specs.declared.book.BidBook.TheInside.{Inside}

abbrev pub bid_value : Entry → BookBid
bid_value e = record { lots = e.bid.package; amount = e.bid.amount }

abbrev pub bidder_value : BookBidder → Bidder
bidder_value b = record { name = b.name; bids = map bid_value b.bids.items }

abbrev pub book_value : Inside → Book
book_value b = record { supply = b.supply; reserves = b.reserves.items; bidders = map bidder_value b.bidders.items }

-- the net amount that is kept with each bid
abbrev pub HasNet : List ℕ → Entry → Type 0
HasNet reserves e = e.net ≡ pos e.bid.amount -ℤ pos (cost_of reserves e.bid.package)

abbrev pub NetsAreKept : Inside → Type 0
NetsAreKept b = All (λ x. All (HasNet b.reserves.items) x.bids.items) b.bidders.items
