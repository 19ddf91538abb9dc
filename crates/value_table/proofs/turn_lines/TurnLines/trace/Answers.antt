use Rattle.std.proofs.Common.{subst}
use Rattle.value_table.specs.Counted.{IsCountedTable}
use Rattle.value_table.specs.TurnLines.{lines_in}
use Rattle.value_table.proofs.turn_lines.TurnLines.trace.Goals as goal

pub trace_slices-requires : goal.trace_slices-requires
trace_slices-requires c = rw c.deref.ensures.value (subst (λ t. IsCountedTable c.args.lowered.now (lines_in t)) c.in-Short.is c.requires)

pub trace_slices-requires-in-Narrow : goal.trace_slices-requires-in-Narrow
trace_slices-requires-in-Narrow c = rw c.deref-in-Narrow.ensures.value (subst (λ t. IsCountedTable c.args.lowered.now (lines_in t)) c.in-Narrow.is c.requires)

pub trace_slices-requires-in-Wide : goal.trace_slices-requires-in-Wide
trace_slices-requires-in-Wide c = rw c.deref-in-Wide.ensures.value (subst (λ t. IsCountedTable c.args.lowered.now (lines_in t)) c.in-Wide.is c.requires)
