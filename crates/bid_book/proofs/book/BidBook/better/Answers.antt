use Rattle.std.proofs.Common.{◌≤◌, length, arith}
use Rattle.bid_book.proofs.BookReads.{count-read, bidders-read}
use Rattle.bid_book.proofs.BetterLaws.{better-at}
use Rattle.bid_book.proofs.book.BidBook.better.Goals as goal

pub returns : goal.returns
returns c =
    let known : c.args.j ≤ length c.self.inside.bidders.items = omega (arith, bidders-read c.self.inside c.args.self.now c.self.view_is) in
    let count = count-read c.self.inside c.args.self.now c.self.view_is c.args.j known c.requires.bidder.0 c.index-bidder.result.now c.index-bidder.ensures in
    better-at c.self.inside c.args.self.now c.self.view_is c.args.j known c.requires.bidder.0 c.index-bidder.result.now c.index-bidder.ensures c.args.i
    c.index-entry.result.now c.self.invariant.2 c.self.invariant.1 c.requires.bid.0 (omega arith) c.index-entry.ensures
