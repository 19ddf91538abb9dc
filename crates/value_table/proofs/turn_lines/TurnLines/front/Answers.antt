use Rattle.std.proofs.Common.{subst, suc}
use Rattle.value_table.specs.Counted.{AreCountedLines}
use Rattle.value_table.specs.TurnLines.{lines_in}
use Rattle.value_table.proofs.turn_lines.TurnLines.front.Goals as goal

pub front_of-requires : goal.front_of-requires
front_of-requires c =
    rw c.deref.ensures.value (subst (λ t. AreCountedLines c.args.lowered.now (suc c.args.count) 0 (lines_in t)) c.in-Short.is c.requires)

pub front_of-requires-in-Narrow : goal.front_of-requires-in-Narrow
front_of-requires-in-Narrow c =
    rw c.deref-in-Narrow.ensures.value (subst (λ t. AreCountedLines c.args.lowered.now (suc c.args.count) 0 (lines_in t)) c.in-Narrow.is c.requires)

pub front_of-requires-in-Wide : goal.front_of-requires-in-Wide
front_of-requires-in-Wide c =
    rw c.deref-in-Wide.ensures.value (subst (λ t. AreCountedLines c.args.lowered.now (suc c.args.count) 0 (lines_in t)) c.in-Wide.is c.requires)
