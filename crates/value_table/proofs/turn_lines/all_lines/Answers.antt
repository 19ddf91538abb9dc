use Rattle.std.proofs.Common.{sym, subst}
use Rattle.value_table.specs.Counted.{IsCountedTable}
use Rattle.value_table.proofs.turn_lines.all_lines.Goals as goal

pub returns : goal.returns
returns c = subst (IsCountedTable c.args.lowered.now) (sym c.in_ok-grid.ensures) c.in_ok-lines.ensures
