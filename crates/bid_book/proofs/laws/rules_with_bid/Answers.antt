use Rattle.bid_book.proofs.PutLaws.{put-within}
use Rattle.bid_book.proofs.laws.rules_with_bid.Goals as goal

pub returns : goal.returns
returns c = put-within
