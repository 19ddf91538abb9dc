use Rattle.std.proofs.Common.{◌≡◌, ◌∙◌, ◌<◌, ◌-◌, sym, ap, arith, length, get_or, map, pos}
use Rattle.std.proofs.lemmas.List.{get_or-map}
use Rattle.value_table.proofs.runs.is_reached.Goals as goal

pub is_at_least-requires-clause-below : goal.is_at_least-requires-clause-below
is_at_least-requires-clause-below g c =
    let at = length c.args.line.now - 1 - c.args.first in
    let own = c.index-below-line.result in
    let inside : at < length c.args.below.now = omega (arith, c.requires.first, c.requires.lines.places) in
    let is : get_or (map g.C.Cell.number c.args.below.now) at (pos 0) ≡ g.C.Cell.number own = get_or-map g.C.Cell.number c.args.below.now at own
    (pos 0) inside ∙ ap g.C.Cell.number (sym c.index-below-line.is) in
    rw is at (c.requires.lines.sizes at)
