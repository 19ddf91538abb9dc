use Rattle.std.proofs.Common.{◌≡◌, length, sym, ap, subst, ◌∙◌, arith}
use Rattle.auction_model.specs.Book.{Book, BookBid, bids_of, market_of}
use Rattle.auction_model.specs.Entries.{with_entry}
use Rattle.auction_model.specs.Greatest.{IsWinning}
use Rattle.auction_model.proofs.BookMarket.{winning-count}
use Rattle.bid_book.specs.Changes.{IsBidFor, with_put}
use Rattle.review.specs.Reviewed.{AreSideLines}
use Rattle.review.proofs.EditedLines.{bidders-same}
use Rattle.review.proofs.KeepLaws.{add-stays, number-known}
use Rattle.review.proofs.changes.add.Goals as goal

pub move_up-requires-clause-bidder : goal.move_up-requires-clause-bidder
move_up-requires-clause-bidder c = (
  c.requires.bid.some,
  omega (
    arith,
    c.requires.bid.known,
    winning-count c.args.book.now c.args.choice.now
        c.requires.reviewed.winning,
  ),
)

pub move_up-requires-clause-few : goal.move_up-requires-clause-few
move_up-requires-clause-few c =
    omega (
      arith,
      c.kept.ensures.bids c.args.j,
      number-known c.args.book.now c.args.j c.args.choice.now 0 c.requires.bid.some c.requires.bid.known
          c.requires.reviewed.winning,
    )

pub retrace-requires-clause-count : goal.retrace-requires-clause-count
retrace-requires-clause-count c =
    let book = c.args.book.now in
    let is : c.put.new.book ≡ with_put book c.args.j (record { lots = c.args.wanted.now; amount = c.args.amount }) = c.in_ok-put.ensures.put in
    let same : length c.put.new.book.bidders ≡ length book.bidders = ap (λ (b : Book). length b.bidders) is
    ∙ bidders-same book c.args.j _ c.requires.bid.some in
    winning-count book c.args.choice.now c.requires.reviewed.winning ∙ sym same

pub returns-in-Some-clause-reviewed : goal.returns-in-Some-clause-reviewed
returns-in-Some-clause-reviewed c =
    let book = c.args.book.now in
    let choice = c.args.choice.now in
    let j = c.args.j in
    let lots = c.args.wanted.now in
    let amount = c.args.amount in
    let number = c.in-Some.number in
    let bid : BookBid = record { lots = lots; amount = amount } in
    let is : c.put.new.book ≡ with_put book j bid = c.in_ok-put.ensures.put in
    let for : IsBidFor (with_put book j bid) j lots number = subst (λ (b : Book). IsBidFor b j lots number) is c.in-Some.ensures.own in
    let stays = add-stays book j choice number c.requires.bid.some c.requires.bid.known c.requires.reviewed.winning lots amount c.requires.none
    (c.is_beaten-beaten.ensures.beaten c.if-beaten.true) for in
    record {
      winning = subst (λ (b : Book). IsWinning (market_of b) c.move_up.new.choice) (sym is)
          (subst (IsWinning (market_of (with_put book j bid))) (sym c.move_up.ensures) stays);
      sides = subst (λ (b : Book). AreSideLines b c.mark.new.self) (sym is) (c.mark.ensures book (with_entry lots amount (bids_of book j))
          c.is_beaten-beaten.ensures.lines c.requires.bid.known);
    }
