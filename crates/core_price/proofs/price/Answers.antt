-- Too many winners, or memory is wanting.
use Rattle.std.proofs.Common.{◌∙◌, ap, length, sym}
use Rattle.std.proofs.lemmas.Bool.{not_from_false}
use Rattle.core_laws.specs.Winners.{winners_in}
use Rattle.core_laws.specs.Weights.{FewWin}
use Rattle.core_price.proofs.StartLaws.{count}
use Rattle.core_price.proofs.StopLaws.{memory-stop}
use Rattle.core_price.proofs.price.Goals as goal

pub many_win-requires-clause-long : goal.many_win-requires-clause-long
many_win-requires-clause-long g c =
    let z = g.C.Chooser.chosen c.args.chooser.now in
    let lawful = g.met.C.Chooser.lawful c.args.chooser.now in
    let win = g.met.C.Chooser.winning c.args.chooser.now in
    c.requires.weights.long ∙ sym (lawful.lengths z win.passed) ∙ ap length (sym c.winners.ensures)

pub many_win-requires-clause-count : goal.many_win-requires-clause-count
many_win-requires-clause-count g c =
    let m = g.C.Chooser.market c.args.chooser.now in
    let z = g.C.Chooser.chosen c.args.chooser.now in
    let lawful = g.met.C.Chooser.lawful c.args.chooser.now in
    let win = g.met.C.Chooser.winning c.args.chooser.now in
    count m lawful z win c.args.singles.now c.requires.singles ∙ ap winners_in (sym c.winners.ensures)

pub returns-then-many_win-clause-stops : goal.returns-then-many_win-clause-stops
returns-then-many_win-clause-stops g c =
    let m = g.C.Chooser.market c.args.chooser.now in
    let z = g.C.Chooser.chosen c.args.chooser.now in
    let lawful = g.met.C.Chooser.lawful c.args.chooser.now in
    let win = g.met.C.Chooser.winning c.args.chooser.now in
    (rw c.winners.ensures at (c.many_win.ensures.many c.if-many_win.true), count m lawful z win c.args.singles.now c.requires.singles)

pub price_by_rows-requires-clause-few : goal.price_by_rows-requires-clause-few
price_by_rows-requires-clause-few g c = rw c.winners.ensures at (c.many_win.ensures.few (not_from_false c.many_win.result c.if-many_win.false))

pub returns-clause-few : goal.returns-clause-few
returns-clause-few g c = rw c.winners.ensures at (c.many_win.ensures.few (not_from_false c.many_win.result c.if-many_win.false))

pub returns-in_err-price_by_rows-clause-stops : goal.returns-in_err-price_by_rows-clause-stops
returns-in_err-price_by_rows-clause-stops g c =
    let z = g.C.Chooser.chosen c.args.chooser.now in
    let few : FewWin z c.args.weights.now = rw c.winners.ensures at (c.many_win.ensures.few (not_from_false c.many_win.result c.if-many_win.false)) in
    memory-stop c.from_residual.result z c.args.weights.now c.from_residual.ensures.1 few
