use Rattle.std.proofs.Common.{◌≡◌, ◌∙◌, ◌+◌, suc, ap, arith, get_or, [], ℕ, sym}
use Rattle.auction_model.specs.Place.{states_of}
use Rattle.cert_soundness.specs.Tests.{bidders_of, states}
use Rattle.table_check.proofs.TableLines.{room-front, table-small}
use Rattle.cert_check.proofs.whole.grids.inner_fault.Goals as goal

pub put_line-requires-clause-places : goal.put_line-requires-clause-places
put_line-requires-clause-places c =
    let book = c.args.offers.now.book.now in
    room-front (bidders_of book) (states book) c.args.table.now c.requires.table c.states-states.result 16384
    (c.states-states.ensures.states ∙ ap states_of c.supply.ensures.supply) c.states-states.ensures.most

pub put_line-requires-2-clause-places : goal.put_line-requires-2-clause-places
put_line-requires-2-clause-places c =
    let book = c.args.offers.now.book.now in
    room-front (bidders_of book) (states book) c.args.table.now c.requires.table c.states-states.result 16384
    (c.states-states.ensures.states ∙ ap states_of c.supply.ensures.supply) c.states-states.ensures.most

pub two_lines_found-requires-clause-sizes : goal.two_lines_found-requires-clause-sizes
two_lines_found-requires-clause-sizes c = λ s.
    let book = c.args.offers.now.book.now in
    let small = table-small (bidders_of book) (states book) c.args.table.now c.requires.table (c.args.k + 1) s in
    rw c.put_line-2.ensures small

pub returns-clause-place : goal.returns-clause-place
returns-clause-place c =
    let next : suc c.args.k ≡ c.args.k + 1 = omega arith in
    c.two_lines_found.ensures.place c.args.table.now c.requires.table (sym c.put_line.ensures)
    (ap (λ (n : ℕ). get_or c.args.table.now n []) next ∙ sym c.put_line-2.ensures)

pub two_lines_found-requires-clause-known : goal.two_lines_found-requires-clause-known
two_lines_found-requires-clause-known c = λ yes.
    rw c.put_line.ensures (c.requires.known yes)

pub returns-clause-grows : goal.returns-clause-grows
returns-clause-grows c = λ yes.
    rw c.put_line-2.ensures at (c.two_lines_found.ensures.grows yes)
