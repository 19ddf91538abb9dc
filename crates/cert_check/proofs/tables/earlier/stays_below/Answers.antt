use Rattle.cert_check.proofs.EarlierLaws.{stays-some}
use Rattle.std.proofs.Common.{rules, get_or, pos}
use Rattle.std.proofs.lemmas.Int.{to_z-of_z}
use mir.Val.{SFits}
use mir.Syntax.{w128}
use Rattle.cert_check.proofs.tables.earlier.stays_below.Goals as goal

pub returns-in-Some : goal.returns-in-Some
returns-in-Some c =
    let net_fits : SFits w128 c.net.result = search rules in
    let entry_fits : SFits w128 (get_or c.args.line.now c.in-Some.place (pos 0)) = search rules in
    let bound_fits : SFits w128 c.args.bound = search rules in
    stays-some c.args.book.now c.args.j c.args.line.now c.args.rest c.args.bound c.args.i c.in-Some.place c.net.result c.is_below.result
    c.in-Some.ensures.fits c.in-Some.ensures.left c.net.ensures
    (simp to_z-of_z at c.is_below.ensures)
