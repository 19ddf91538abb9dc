use Rattle.std.proofs.Common.{◌≤◌, length, sym, ap, arith}
use Rattle.auction_model.specs.Book.{BookBid}
use Rattle.bid_book.proofs.BookReads.{bid-at, categories-at, count-read, bidders-read}
use Rattle.bid_book.proofs.book.BidBook.bid.Goals as goal

pub returns-clause-lots : goal.returns-clause-lots
returns-clause-lots c =
    let known : c.args.j ≤ length c.self.inside.bidders.items = omega (arith, bidders-read c.self.inside c.args.self.now c.self.view_is) in
    let count = count-read c.self.inside c.args.self.now c.self.view_is c.args.j known c.requires.bidder.0 c.index-bidder.result.now c.index-bidder.ensures in
    let is = bid-at c.self.inside c.args.self.now c.self.view_is c.args.j known c.requires.bidder.0 c.index-bidder.result.now c.index-bidder.ensures c.args.i
    c.index-chosen.result.now c.requires.bid.0 (omega arith) c.index-chosen.ensures in
    ap (λ (b : BookBid). b.lots) (sym is)

pub returns-clause-amount : goal.returns-clause-amount
returns-clause-amount c =
    let known : c.args.j ≤ length c.self.inside.bidders.items = omega (arith, bidders-read c.self.inside c.args.self.now c.self.view_is) in
    let count = count-read c.self.inside c.args.self.now c.self.view_is c.args.j known c.requires.bidder.0 c.index-bidder.result.now c.index-bidder.ensures in
    let is = bid-at c.self.inside c.args.self.now c.self.view_is c.args.j known c.requires.bidder.0 c.index-bidder.result.now c.index-bidder.ensures c.args.i
    c.index-chosen.result.now c.requires.bid.0 (omega arith) c.index-chosen.ensures in
    ap (λ (b : BookBid). b.amount) (sym is)

pub returns-clause-categories : goal.returns-clause-categories
returns-clause-categories c =
    let known : c.args.j ≤ length c.self.inside.bidders.items = omega (arith, bidders-read c.self.inside c.args.self.now c.self.view_is) in
    let count = count-read c.self.inside c.args.self.now c.self.view_is c.args.j known c.requires.bidder.0 c.index-bidder.result.now c.index-bidder.ensures in
    categories-at c.self.inside c.args.self.now c.self.view_is c.args.j known c.requires.bidder.0 c.index-bidder.result.now c.index-bidder.ensures c.args.i
    c.index-chosen.result.now c.self.invariant.0 c.requires.bid.0 (omega (arith, count)) c.index-chosen.ensures
