use Rattle.std.proofs.Common.{subst, pos}
use Rattle.value_table.specs.Counted.{IsCountedTable}
use Rattle.value_table.specs.TurnLines.{lines_in}
use Rattle.value_table.proofs.TableLines.{counted-lines}
use Rattle.value_table.proofs.turn_lines.TurnLines.grid.Goals as goal

pub grid_of-requires : goal.grid_of-requires
grid_of-requires c =
    rw c.deref.ensures.value
    (counted-lines c.args.lowered.now (λ n. pos n) c.in-Short.lines.items (subst (λ t. IsCountedTable c.args.lowered.now
    (lines_in t)) c.in-Short.is c.requires))

pub grid_of-requires-in-Narrow : goal.grid_of-requires-in-Narrow
grid_of-requires-in-Narrow c =
    rw c.deref-in-Narrow.ensures.value
    (counted-lines c.args.lowered.now (λ z. z) c.in-Narrow.lines.items (subst (λ t. IsCountedTable c.args.lowered.now
    (lines_in t)) c.in-Narrow.is c.requires))

pub grid_of-requires-in-Wide : goal.grid_of-requires-in-Wide
grid_of-requires-in-Wide c =
    rw c.deref-in-Wide.ensures.value
    (counted-lines c.args.lowered.now (λ z. z) c.in-Wide.lines.items (subst (λ t. IsCountedTable c.args.lowered.now (lines_in t)) c.in-Wide.is c.requires))
