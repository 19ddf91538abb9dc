use Rattle.auction_model.proofs.BookMarket.{market-of_book}
use Rattle.auction_model.proofs.book_market.Goals as goal

pub returns : goal.returns
returns c = market-of_book
