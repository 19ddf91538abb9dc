use Rattle.std.proofs.Common.{◌≡◌, ◌-◌, ◌≤◌, ◌<◌, ℕ, List, Option, zero, suc, get_or, sym, ap, subst, ◌∙◌, arith}
use Rattle.auction_model.specs.Book.{Book, BookBid, bid_of, bids_of, market_of, no_bid}
use Rattle.auction_model.specs.Greatest.{IsWinning}
use Rattle.auction_model.proofs.BookMarket.{winning-count}
use Rattle.bid_book.specs.Changes.{with_bids}
use Rattle.bid_book.proofs.PackageOrder.{lots_at}
use Rattle.bid_book.proofs.PutLaws.{book-order}
use Rattle.review.specs.Reviewed.{IsHigher}
use Rattle.review.proofs.KeepLaws.{raise-stays, raised-bids}
use Rattle.review.proofs.RaiseLaws.{raised-winning}
use Rattle.review.proofs.changes.stays_raised.Goals as goal

bid-there : (book : Book) (j i : ℕ) → 0 < i → bid_of book j i ≡ get_or (bids_of book j) (i - 1) no_bid
bid-there book j zero some = absurd (omega (arith, some))
bid-there book j (suc i) some = ap (λ (n : ℕ). get_or (bids_of book j) n no_bid) (omega arith)

pub number-requires : goal.number-requires
number-requires c = (c.requires.bid.some, omega (arith, c.requires.bid.known, winning-count c.args.book.now c.args.choice.now c.requires.reviewed.winning))

pub returns-then-number-clause-stays : goal.returns-then-number-clause-stays
returns-then-number-clause-stays c = λ yes.
    let book = c.args.book.now in
    let choice = c.args.choice.now in
    let j = c.args.j in
    let lots = c.args.wanted.now in
    let amount = c.args.amount in
    let number = c.in-Some.number in
    let for = c.in-Some.ensures.own in
    let some = c.requires.bid.some in
    let inside = c.requires.bid.known in
    let order = book-order book j c.kept.ensures.rules some inside in
    let own = sym (lots_at book j number for.some) ∙ for.own in
    let was : (bid_of book j number).amount ≤ amount = subst (λ (o : Option ℕ). IsHigher o amount) c.in-Some.ensures.amount c.requires.higher in
    let higher : (get_or (bids_of book j) (number - 1) no_bid).amount ≤ amount = subst (λ (b : BookBid). b.amount ≤ amount)
    (bid-there book j number for.some) was in
    let stays = raised-winning book j number (record { lots = lots; amount = amount }) some inside for.some for.known own choice higher
    (sym c.number.ensures ∙ c.if-number.true) c.requires.reviewed.winning in
    subst (λ (l : List BookBid). IsWinning (market_of (with_bids book j l)) choice)
    (sym (raised-bids book j choice number some inside c.requires.reviewed.winning lots order for amount)) stays

pub returns-clause-stays : goal.returns-clause-stays
returns-clause-stays c = λ yes.
    let book = c.args.book.now in
    let j = c.args.j in
    let some = c.requires.bid.some in
    let inside = c.requires.bid.known in
    raise-stays book j c.args.choice.now c.in-Some.number some inside c.requires.reviewed.winning c.args.wanted.now
    (book-order book j c.kept.ensures.rules some inside) c.in-Some.ensures.own c.args.amount
    (λ e. c.if-number.false (c.number.ensures ∙ e)) (c.is_beaten.ensures.beaten yes)
