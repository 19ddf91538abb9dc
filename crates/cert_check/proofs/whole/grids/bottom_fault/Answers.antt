use Rattle.std.proofs.Common.{◌∙◌, ap, get_or, [], ℕ, sym}
use Rattle.auction_model.specs.Place.{states_of}
use Rattle.cert_soundness.specs.Tests.{bidders_of, states}
use Rattle.table_check.proofs.TableLines.{room-front}
use Rattle.cert_check.proofs.whole.grids.bottom_fault.Goals as goal

pub put_line-requires-clause-places : goal.put_line-requires-clause-places
put_line-requires-clause-places c =
    let book = c.args.offers.now.book.now in
    room-front (bidders_of book) (states book) c.args.table.now c.requires c.states-states.result 16384
    (c.states-states.ensures.states ∙ ap states_of c.supply.ensures.supply) c.states-states.ensures.most

pub returns : goal.returns
returns c = c.last_line_fault.ensures c.args.table.now c.requires
    (ap (λ (n : ℕ). get_or c.args.table.now n []) (sym c.bidders.ensures.bidders) ∙ sym c.put_line.ensures)
