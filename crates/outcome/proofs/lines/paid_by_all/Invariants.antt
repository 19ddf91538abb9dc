use Rattle.std.proofs.Common.{◌≡◌}
use Rattle.wide_num.specs.Sums.{nth, total}
use Rattle.outcome.proofs.lines.paid_by_all.Given as goal

abbrev pub invariant-loop-paid : goal.invariant-loop-paid
invariant-loop-paid l = l.sum ≡ total l.paid-index (nth l.at)
