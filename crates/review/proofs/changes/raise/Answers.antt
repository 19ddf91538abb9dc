use Rattle.std.proofs.Common.{◌≡◌, length, sym, ap, subst, ◌∙◌}
use Rattle.auction_model.specs.Book.{Book, bids_of, market_of}
use Rattle.auction_model.specs.Entries.{with_entry}
use Rattle.auction_model.specs.Greatest.{IsWinning}
use Rattle.auction_model.proofs.BookMarket.{winning-count}
use Rattle.bid_book.specs.Changes.{with_put}
use Rattle.review.specs.Reviewed.{AreSideLines}
use Rattle.review.proofs.EditedLines.{bidders-same}
use Rattle.review.proofs.changes.raise.Goals as goal

pub retrace-requires-clause-count : goal.retrace-requires-clause-count
retrace-requires-clause-count c =
    let book = c.args.book.now in
    let is : c.put.new.book ≡ with_put book c.args.j (record { lots = c.args.wanted.now; amount = c.args.amount }) = c.in_ok-put.ensures.put in
    let same : length c.put.new.book.bidders ≡ length book.bidders = ap (λ (b : Book). length b.bidders) is
    ∙ bidders-same book c.args.j _ c.requires.bid.some in
    winning-count book c.args.choice.now c.requires.reviewed.winning ∙ sym same

pub returns-else-not-stays-clause-reviewed : goal.returns-else-not-stays-clause-reviewed
returns-else-not-stays-clause-reviewed c =
    let book = c.args.book.now in
    let j = c.args.j in
    let lots = c.args.wanted.now in
    let amount = c.args.amount in
    let is : c.put.new.book ≡ with_put book j (record { lots = lots; amount = amount }) = c.in_ok-put.ensures.put in
    record {
      winning = subst (λ (b : Book). IsWinning (market_of b) c.args.choice.now) (sym is) (c.stays_raised-stays.ensures.stays c.if-not-stays.false);
      sides = subst (λ (b : Book). AreSideLines b c.mark.new.self) (sym is) (c.mark.ensures book (with_entry lots amount (bids_of book j))
          c.stays_raised-stays.ensures.lines c.requires.bid.known);
    }
