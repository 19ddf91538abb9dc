use Rattle.std.proofs.Common.{◌∙◌, ap, sym, pos, rules}
use Rattle.std.proofs.lemmas.Int.{to_z-of_z}
use Rattle.std.proofs.lemmas.List.{get_or-map}
use mir.Val.{SFits}
use mir.Syntax.{w128}
use Rattle.value_table.proofs.cell.number_at.Goals as goal

pub returns : goal.returns
returns g c =
    let number = g.C.Cell.number in
    let own = c.index-line-place.result in
    let fits : SFits w128 c.wide.result = search rules in
    to_z-of_z w128 c.wide.result fits ∙ c.wide.ensures
    ∙ sym (get_or-map number c.args.line.now c.args.place own (pos 0) c.requires ∙ ap number (sym c.index-line-place.is))
