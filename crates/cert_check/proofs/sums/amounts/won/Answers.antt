use Rattle.std.proofs.Common.{arith}
use Rattle.auction_model.specs.Book.{menu_of}
use Rattle.auction_model.proofs.ChoiceLaws.{known-length}
use Rattle.cert_check.proofs.MemberLaws.{known-number}
use Rattle.cert_check.proofs.sums.amounts.won.Goals as goal

pub bounds-choice-j : goal.bounds-choice-j
bounds-choice-j c =
    let len = known-length (menu_of c.args.book.now) 0 c.args.choice.now c.requires.known in
    omega (arith, len, c.requires.bidder.0, c.requires.bidder.1)

pub worth-requires-clause-bid : goal.worth-requires-clause-bid
worth-requires-clause-bid c = known-number (menu_of c.args.book.now) c.args.choice.now c.args.j c.requires.known c.requires.bidder.0 c.requires.bidder.1
