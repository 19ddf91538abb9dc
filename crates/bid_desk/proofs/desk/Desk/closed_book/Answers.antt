-- The state stands for a log, whose book keeps the limits.
use Rattle.std.proofs.Common.{◌∙◌, List, ap, length, map}
use Rattle.auction_rules.specs.State.{DeskState, book_in}
use Rattle.bid_desk.specs.BookBids.{submitted_in}
use Rattle.bid_desk.specs.DeskValue.{desk_value}
use Rattle.bid_desk.specs.Lists.{Lists}
use Rattle.bid_desk.proofs.BookStates.{book-same, book-within, desk-booked}
use Rattle.bid_desk.proofs.desk.Desk.closed_book.Goals as goal

pub book_of-requires-clause-booked : goal.book_of-requires-clause-booked
book_of-requires-clause-booked c =
    let desk : DeskState = desk_value c.self.inside.award c.self.inside.clock c.self.inside.closed c.self.inside.bidders.items in
    desk-booked desk c.history.result.now (map submitted_in c.deref.result.now) (length c.self.inside.clock.posted.held)
    (length c.self.inside.clock.posted.prices)
    c.self.invariant.1 c.kept.ensures
    (ap (λ (s : DeskState). s.stage) c.self.view_is ∙ c.requires)
    c.history.ensures.history (ap (λ (ls : List Lists). map submitted_in ls) c.deref.ensures.value)
    c.history.ensures.bidders c.self.invariant.0.bidders c.history.ensures.categories c.self.invariant.0.categories

pub book_of-requires-clause-limits : goal.book_of-requires-clause-limits
book_of-requires-clause-limits c =
    let desk : DeskState = desk_value c.self.inside.award c.self.inside.clock c.self.inside.closed c.self.inside.bidders.items in
    book-within desk _ c.self.invariant.1 c.kept.ensures c.desk_book.ensures c.book_of_award.ensures
    (book-same desk c.history.result.now (map submitted_in c.deref.result.now) c.history.ensures.history
    (ap (λ (ls : List Lists). map submitted_in ls) c.deref.ensures.value))

pub returns : goal.returns
returns c =
    let desk : DeskState = desk_value c.self.inside.award c.self.inside.clock c.self.inside.closed c.self.inside.bidders.items in
    c.in_ok-book.ensures
    ∙ book-same desk c.history.result.now (map submitted_in c.deref.result.now) c.history.ensures.history
    (ap (λ (ls : List Lists). map submitted_in ls) c.deref.ensures.value)
    ∙ ap book_in c.self.view_is
