use Rattle.std.proofs.Common.{subst}
use Rattle.value_table.specs.Counted.{IsCountedTable}
use Rattle.value_table.specs.TurnLines.{lines_in}
use Rattle.value_table.proofs.turn_lines.TurnLines.most.Goals as goal

pub first_entry-requires : goal.first_entry-requires
first_entry-requires c = rw c.deref.ensures.value (subst (λ t. IsCountedTable c.args.lowered.now (lines_in t)) c.in-Short.is c.requires)

pub first_entry-requires-in-Narrow : goal.first_entry-requires-in-Narrow
first_entry-requires-in-Narrow c = rw c.deref-in-Narrow.ensures.value (subst (λ t. IsCountedTable c.args.lowered.now (lines_in t)) c.in-Narrow.is c.requires)

pub first_entry-requires-in-Wide : goal.first_entry-requires-in-Wide
first_entry-requires-in-Wide c = rw c.deref-in-Wide.ensures.value (subst (λ t. IsCountedTable c.args.lowered.now (lines_in t)) c.in-Wide.is c.requires)
