use Rattle.std.proofs.Common.{◌∙◌, ap, sym, map, []}
use Rattle.std.proofs.lemmas.List.{get_or-map}
use Rattle.value_table.proofs.TableLines.{entries}
use Rattle.value_table.proofs.tracing.line_at.Goals as goal

pub returns : goal.returns
returns g c =
    let number = g.C.Cell.number in
    let lines = c.args.lines.now in
    let own = c.index-lines-line.result in
    ap (map number) c.deref.ensures.value ∙ sym (get_or-map (entries number) lines c.args.line own [] c.requires
    ∙ ap (entries number) (sym c.index-lines-line.is))
