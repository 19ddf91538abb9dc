use Rattle.std.proofs.Common.{◌<◌, ◌^◌}
use Rattle.table_check.proofs.NarrowLines.{IsCopied}
use Rattle.table_check.proofs.lines.narrow_into.Given as goal

abbrev pub invariant-loop-i : goal.invariant-loop-i
invariant-loop-i l = l.seen < 2 ^ 60 → IsCopied l.numbers l.line l.i
