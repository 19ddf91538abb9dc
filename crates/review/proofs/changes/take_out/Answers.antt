use Rattle.std.proofs.Common.{◌≡◌, ◌-◌, ◌<◌, ◌≤◌, ℕ, List, length, sym, ap, subst, ◌∙◌, arith}
use Rattle.auction_model.specs.Book.{Book, bids_of, market_of}
use Rattle.auction_model.specs.Entries.{without_entry}
use Rattle.auction_model.specs.Greatest.{IsWinning}
use Rattle.auction_model.proofs.BookMarket.{winning-count}
use Rattle.bid_book.specs.Changes.{IsBidFor, with_bids}
use Rattle.bid_book.proofs.PackageOrder.{lots_at}
use Rattle.bid_book.proofs.PutLaws.{book-order}
use Rattle.std.specs.List.{remove}
use Rattle.book_grammar.specs.BookLines.{IsBookWithinLimits}
use Rattle.review.specs.Reviewed.{AreSideLines}
use Rattle.review.proofs.EditedLines.{bidders-same}
use Rattle.review.proofs.KeepLaws.{remove-stays}
use Rattle.review.proofs.RemoveLaws.{without-removed}
use Rattle.review.proofs.changes.take_out.Goals as goal

removed-bids : (book : Book) (j number : ℕ) (lots : List ℕ) → IsBookWithinLimits book → 0 < j → j ≤ length book.bidders → IsBidFor book j lots number
    → without_entry lots (bids_of book j) ≡ remove (bids_of book j) (number - 1)
removed-bids book j number lots rules some inside own =
    without-removed (bids_of book j) lots (number - 1) (book-order book j rules some inside) (omega (arith, own.some, own.known))
    (sym (lots_at book j number own.some) ∙ own.own)

pub number-requires : goal.number-requires
number-requires c = (c.requires.bidder.0, omega (arith, c.requires.bidder.1, winning-count c.args.book.now c.args.choice.now c.requires.reviewed.winning))

pub move_down-requires : goal.move_down-requires
move_down-requires c = record {
  bidder = (
    c.requires.bidder.0,
    omega (
      arith,
      c.requires.bidder.1,
      winning-count c.args.book.now c.args.choice.now
          c.requires.reviewed.winning,
    ),
  );
}

pub retrace-requires-clause-count : goal.retrace-requires-clause-count
retrace-requires-clause-count c =
    let book = c.args.book.now in
    let same : length c.remove_bid.new.self.bidders ≡ length book.bidders = ap (λ (b : Book). length b.bidders) c.remove_bid.ensures
    ∙ bidders-same book c.args.j _ c.requires.bidder.0 in
    winning-count book c.args.choice.now c.requires.reviewed.winning ∙ sym same

pub returns-then-stays-clause-book : goal.returns-then-stays-clause-book
returns-then-stays-clause-book c =
    let book = c.args.book.now in
    c.remove_bid.ensures ∙ ap (with_bids book c.args.j) (sym (removed-bids book c.args.j c.in-Some.number c.args.wanted.now c.kept.ensures.rules
    c.requires.bidder.0 c.requires.bidder.1 c.in-Some.ensures.own))

pub returns-else-stays-clause-book : goal.returns-else-stays-clause-book
returns-else-stays-clause-book c =
    let book = c.args.book.now in
    c.remove_bid.ensures ∙ ap (with_bids book c.args.j) (sym (removed-bids book c.args.j c.in-Some.number c.args.wanted.now c.kept.ensures.rules
    c.requires.bidder.0 c.requires.bidder.1 c.in-Some.ensures.own))

pub returns-then-stays-clause-reviewed : goal.returns-then-stays-clause-reviewed
returns-then-stays-clause-reviewed c =
    let book = c.args.book.now in
    let choice = c.args.choice.now in
    let j = c.args.j in
    let number = c.in-Some.number in
    let lots = c.args.wanted.now in
    let own = c.in-Some.ensures.own in
    let some = c.requires.bidder.0 in
    let inside = c.requires.bidder.1 in
    let order = book-order book j c.kept.ensures.rules some inside in
    let is : c.remove_bid.new.self ≡ with_bids book j (without_entry lots (bids_of book j)) =
    c.remove_bid.ensures ∙ ap (with_bids book j) (sym (removed-bids book j number lots c.kept.ensures.rules some inside own)) in
    record {
      winning = subst (λ (b : Book). IsWinning (market_of b) c.move_down.new.choice) (sym is)
          (subst (IsWinning (market_of (with_bids book j (without_entry lots (bids_of book j))))) (sym c.move_down.ensures)
          (remove-stays book j choice number some inside c.requires.reviewed.winning lots order own (λ e. c.if-stays.true (c.number.ensures ∙ e))));
      sides = subst (λ (b : Book). AreSideLines b c.mark.new.self) (sym is) (c.mark.ensures book (without_entry lots (bids_of book j))
          c.requires.reviewed.sides inside);
    }
