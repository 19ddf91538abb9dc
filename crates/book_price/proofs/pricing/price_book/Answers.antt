use Rattle.std.proofs.Common.{◌∙◌, sym}
use Rattle.auction_model.specs.Book.{market_of}
use Rattle.auction_model.specs.Greatest.{IsWinning}
use Rattle.auction_model.proofs.BookMarket.{winning-count}
use Rattle.value_table.proofs.Plain.{plain-winning}
use Rattle.book_price.proofs.pricing.price_book.Goals as goal

pub many_win-requires-clause-long : goal.many_win-requires-clause-long
many_win-requires-clause-long c =
    let plain = c.in_ok-whole.ensures.plain in
    let winning : IsWinning (market_of c.args.book.now) c.in_ok-winners.winners = plain-winning c.args.book.now c.in_ok-whole.whole.surplus
    c.in_ok-winners.winners plain.zeros (rw (plain.skip, plain.den) at c.in_ok-winners.ensures) in
    c.requires.long ∙ sym (winning-count c.args.book.now c.in_ok-winners.winners winning)

pub priced_book-requires-clause-winners : goal.priced_book-requires-clause-winners
priced_book-requires-clause-winners c =
    let plain = c.in_ok-whole.ensures.plain in
    plain-winning c.args.book.now c.in_ok-whole.whole.surplus c.in_ok-winners.winners plain.zeros (rw (plain.skip, plain.den) at c.in_ok-winners.ensures)

pub returns-then-many_win-clause-stops : goal.returns-then-many_win-clause-stops
returns-then-many_win-clause-stops c =
    let plain = c.in_ok-whole.ensures.plain in
    let winning : IsWinning (market_of c.args.book.now) c.in_ok-winners.winners = plain-winning c.args.book.now c.in_ok-whole.whole.surplus
    c.in_ok-winners.winners plain.zeros (rw (plain.skip, plain.den) at c.in_ok-winners.ensures) in
    (c.in_ok-winners.winners, winning, c.many_win.ensures.many c.if-many_win.true, c.count_winners-count.ensures)
