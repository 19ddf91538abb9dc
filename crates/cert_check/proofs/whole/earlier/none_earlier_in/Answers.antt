use Rattle.std.proofs.Common.{◌∙◌, ap, refl, rules, sym}
use Rattle.std.proofs.lemmas.Int.{to_z-of_z}
use Rattle.auction_model.specs.Place.{states_of}
use Rattle.cert_soundness.specs.Tests.{bidders_of, states}
use Rattle.cert_check.specs.Fields.{cert_headed}
use Rattle.table_check.proofs.TableLines.{room-front, table-small}
use mir.Val.{SFits}
use mir.Syntax.{w128}
use Rattle.cert_check.proofs.whole.earlier.none_earlier_in.Goals as goal

pub put_line-requires-clause-places : goal.put_line-requires-clause-places
put_line-requires-clause-places c =
    let book = c.args.book.now in
    room-front (bidders_of book) (states book) c.args.table.now c.requires.table c.states-states.result 16384
    (c.states-states.ensures.states ∙ ap states_of c.supply.ensures.supply) c.states-states.ensures.most

pub none_earlier-requires-clause-sizes : goal.none_earlier-requires-clause-sizes
none_earlier-requires-clause-sizes c = λ s.
    let small = table-small (bidders_of c.args.book.now) (states c.args.book.now) c.args.table.now c.requires.table c.args.j s in
    rw c.put_line.ensures small

pub returns : goal.returns
returns c =
    let value_fits : SFits w128 c.args.value = search rules in
    c.none_earlier.ensures (cert_headed c.args.value c.args.choice.now c.args.table.now) refl (sym (to_z-of_z w128 c.args.value value_fits))
    (sym c.put_line.ensures)
