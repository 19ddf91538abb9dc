use Rattle.std.proofs.Common.{◌≢◌, ◌∙◌, List, ℕ, sym, subst, arith}
use Rattle.std.specs.List.{AllByRecursion}
use Rattle.std.proofs.lemmas.Bool.{false≢true}
use Rattle.book_grammar.specs.BookForm.{IsName}
use Rattle.slot_places.specs.Slots.{SlotBidder}
use Rattle.line_format.proofs.Lines.{none-so}
use Rattle.slot_places.proofs.EntryLaws.{entrant_fields, made_entrant}
use Rattle.slot_places.proofs.read.entries.read_bidder.Goals as goal

pub returns-in_err-text-clause-none : goal.returns-in_err-text-clause-none
returns-in_err-text-clause-none c =
    let found = c.in_ok-first.ensures.found in
    none-so c.from_residual-in_err-text.result _
    (λ name width e.
    let parts = entrant_fields c.args.slots.now c.args.fields.now c.in_ok-first.first.now c.in_ok-first.second.now name width found.1 found.0 e in
    c.in_err-text.ensures.none (subst IsName parts.0 e.valid))

pub returns-then-has_bidder-clause-none : goal.returns-then-has_bidder-clause-none
returns-then-has_bidder-clause-none c = λ name width e.
    let found = c.in_ok-first.ensures.found in
    let parts = entrant_fields c.args.slots.now c.args.fields.now c.in_ok-first.first.now c.in_ok-first.second.now name width found.1 found.0 e in
    let free = c.has_bidder.ensures.1 (subst (λ (l : List ℕ). AllByRecursion (λ (b : SlotBidder). b.name ≢ l) c.args.slots.now.bidders)
    (parts.0 ∙ sym c.in_ok-text.ensures.some.0) e.unused) in
    false≢true (sym free ∙ c.if-has_bidder.true)

pub returns-in_err-width-clause-none : goal.returns-in_err-width-clause-none
returns-in_err-width-clause-none c =
    let found = c.in_ok-first.ensures.found in
    none-so c.from_residual-in_err-width.result _
    (λ name width e.
    let parts = entrant_fields c.args.slots.now c.args.fields.now c.in_ok-first.first.now c.in_ok-first.second.now name width found.1 found.0 e in
    let room = e.room in
    let left = c.room.ensures in
    c.in_err-width.ensures.none width e.some (omega (arith, room, left)) parts.1)

pub returns-clause-found : goal.returns-clause-found
returns-clause-found c =
    let found = c.in_ok-first.ensures.found in
    let width = c.in_ok-width.ensures.found in
    made_entrant c.args.slots.now c.args.fields.now c.in_ok-first.first.now c.in_ok-first.second.now c.in_ok-text.text.now c.in_ok-width.width c.room.result
    found.1 c.in_ok-text.ensures.some.0 c.in_ok-text.ensures.some.1
    (c.has_bidder.ensures.0 c.if-has_bidder.false) width.0.0 width.0.1 width.1 c.room.ensures
