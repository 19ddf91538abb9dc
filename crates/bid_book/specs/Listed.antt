-- The content of a list of
-- bidders.
use Rattle.auction_model.specs.Book.{Bidder}
use Rattle.bid_book.specs.declared.bidders.BidderBids.{BidderBids}

abbrev pub bidder_of : BidderBids → Bidder
bidder_of b = record { name = b.name; bids = b.bids }
