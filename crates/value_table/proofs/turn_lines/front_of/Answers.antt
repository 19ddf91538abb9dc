use Rattle.std.proofs.Common.{sym, subst, map, take}
use Rattle.value_table.specs.Counted.{AreCountedLines}
use Rattle.value_table.proofs.TableLines.{counted-front, counted-many, entries}
use Rattle.value_table.proofs.turn_lines.front_of.Goals as goal

pub slice_bounds-grid_of-end : goal.slice_bounds-grid_of-end
slice_bounds-grid_of-end g c =
    let l = c.args.lowered.now in
    let number = g.C.Cell.number in
    let lines = c.args.lines.now in
    counted-many l number (take c.args.count lines) c.args.count (counted-front l number lines c.args.count c.requires)

pub grid_of-requires : goal.grid_of-requires
grid_of-requires g c =
    let l = c.args.lowered.now in
    let number = g.C.Cell.number in
    let lines = c.args.lines.now in
    let front : AreCountedLines l c.args.count 0 (map (entries number) (take c.args.count lines)) = counted-front l number lines c.args.count c.requires in
    subst (λ n. AreCountedLines l n 0 (map (entries number) (take c.args.count lines)))
    (counted-many l number (take c.args.count lines) c.args.count front) front

pub returns : goal.returns
returns g c =
    subst (AreCountedLines c.args.lowered.now c.args.count 0) (sym c.in_ok-grid.ensures)
    (counted-front c.args.lowered.now g.C.Cell.number c.args.lines.now c.args.count c.requires)
